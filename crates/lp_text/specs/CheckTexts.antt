-- A trace and a certificate of one of its legs, and their one spelling as the input of a check.
use Rattle.std.specs.Prelude.{ℕ, ◌<◌, ◌≤◌, List, [], ◌∷◌, ◌++◌, length, codes}
use Rattle.std.specs.List.{flat_map, AllByRecursion}
use Rattle.lp_definitions.specs.declared.cert.Cert.{Cert}
use Rattle.lp_definitions.specs.declared.line.Line.{Line}
use Rattle.lp_definitions.specs.declared.line.Line.TheVariants.{Hold, Busy, Born}
use Rattle.lp_text.specs.CertTexts.{cert_lines}
use Rattle.lp_text.specs.declared.check_input.CheckInput.{CheckInput}
use Rattle.lp_text.specs.Words.{line_of}
use Rattle.lp_text.specs.Traces.{IsTrace, text_of}

-- ---- The text

-- the line `lpcert 1`, which stands between a trace and a certificate
abbrev pub division : List (List ℕ)
division = codes "lpcert" ∷ codes "1" ∷ []

-- the one spelling of a trace and a certificate
abbrev pub input_text : CheckInput → List ℕ
input_text input = text_of input.trace ++ line_of division ++ flat_map line_of (cert_lines input.cert)

-- ---- Limits

-- groups and tasks have numbers below 65,536
abbrev pub IsMember : ℕ → Type 0
IsMember number = number < 65536

-- events and serials have numbers of at most seven digits
abbrev pub IsEventNumber : ℕ → Type 0
IsEventNumber number = number < 10000000

abbrev pub IsReason : Line → Type 0
IsReason (Hold group task serial from to) = IsMember group.0 × IsMember task.0 × IsEventNumber serial × IsEventNumber from × IsEventNumber to
IsReason (Busy group task at) = IsMember group.0 × IsMember task.0 × IsEventNumber at
IsReason (Born group parent at) = IsMember group.0 × IsMember parent.0 × IsEventNumber at

-- a certificate that has a spelling
pub record IsCert (cert : Cert) : Type 0 where
  pub leg : IsEventNumber cert.leg
  pub group : IsMember cert.group.0
  pub upto : IsEventNumber cert.upto
  pub lines : AllByRecursion IsReason cert.lines

-- an input that has a spelling
pub record IsInput (input : CheckInput) : Type 0 where
  pub trace : IsTrace input.trace
  pub cert : IsCert input.cert
  pub size : length (input_text input) ≤ 134217728
