-- The lines of certificates.
use Rattle.std.proofs.Common.{◌≡◌, List, ◌++◌, Some, ap₂}
use Rattle.std.specs.List.{flat_map}
use Rattle.lp_definitions.specs.declared.cert.Cert.{Cert}
use Rattle.lp_cert.specs.declared.cert_head.CertHead.{CertHead}
use Rattle.lp_definitions.specs.declared.line.Line.{Line}
use Rattle.lp_cert.specs.Ends.{cert_head}
use Rattle.lp_text.specs.CertTexts.{cert_lines}
use Rattle.lp_text.specs.Words.{line_of}
use Rattle.lp_trace.specs.inside.KeptLines.{text_of}
use Rattle.lp_trace.specs.inside.Claims.{head_words}

-- the lines of a certificate that begins so and has these lines
pub cert_text : (cert : Cert) (head : CertHead) (lines : List Line) → Some (cert_head cert) ≡ Some head → Some cert.lines ≡ Some lines → flat_map line_of (cert_lines cert) ≡ line_of (head_words head) ++ text_of lines
cert_text cert head lines begins are = ap₂ (λ h ls. line_of (head_words h) ++ text_of ls) (cc begins) (cc are)
