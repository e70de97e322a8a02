-- The first lines of a certificate, and their text.
use Rattle.std.specs.Prelude.{◌≡◌, ℕ, ◌<◌, ◌≤◌, List, ◌++◌, length, map, slice_get, slice_index, take, Some}
use Rattle.std.specs.List.{flat_map}
use Rattle.lp_definitions.specs.declared.cert.Cert.{Cert}
use Rattle.lp_definitions.specs.declared.line.Line.{Line}
use Rattle.lp_text.specs.CertTexts.{reason_words}
use Rattle.lp_text.specs.Words.{line_of}

-- the text of lines
abbrev pub text_of : List Line → List ℕ
text_of lines = flat_map line_of (map reason_words lines)

-- these lines are kept: their text, and where each begins
pub record AreKept (lines : List Line) (starts text : List ℕ) : Type 0 where
  pub count : length starts ≡ length lines
  pub whole : text ≡ text_of lines
  pub begins : (i : ℕ) → i < length starts → slice_index starts i ≡ length (text_of (take i lines))

-- lines are kept, and others after them: these come next, and then those that are left
pub record AreAdded (before all next left : List Line) (starts text : List ℕ) : Type 0 where
  pub added : List Line
  pub kept : AreKept (before ++ added) starts text
  pub rest : all ≡ added ++ (next ++ left)

-- what is kept are the first lines of the certificate at a place
pub record AreFirst (certs : List Cert) (place : ℕ) (starts text : List ℕ) : Type 0 where
  pub there : (cert : Cert) → slice_get certs place ≡ Some cert → length starts ≤ length cert.lines
  pub first : (cert : Cert) → slice_get certs place ≡ Some cert → AreKept (take (length starts) cert.lines) starts text
