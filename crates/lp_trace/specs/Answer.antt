-- The answer to the input of a check: the fault of its certificate, or none, in the leg of the trace that it names.
use Rattle.std.specs.Prelude.{◌≡◌, ℕ, List, [], ◌∷◌, ◌++◌, decimal, codes, Option, Some, None}
use Rattle.lp_model.specs.Rules.{Rules}
use Rattle.lp_definitions.specs.Leg.{Leg}
use Rattle.lp_definitions.specs.declared.cert.Cert.{Cert}
use Rattle.lp_definitions.specs.declared.cert_fault.CertFault.{CertFault}
use Rattle.lp_definitions.specs.declared.cert_fault.CertFault.TheVariants.{NoSuchGroup, NotOnStack, NoBlame, Gap, BadBirth, NoLeg, NoMemory}
use Rattle.lp_definitions.specs.Faults.{fault_number}
use Rattle.lp_definitions.specs.Holds.{Holds}
use Rattle.lp_definitions.specs.Judgement.{cert_fault}
use Rattle.lp_text.specs.declared.check_input.CheckInput.{CheckInput}
use Rattle.lp_text.specs.CheckTexts.{IsInput, input_text}
use Rattle.lp_text.specs.Input.{ReadsAll}
use Rattle.lp_replay.specs.Legs.{leg_numbered}

module _ (model : Rules) where
  -- ---- The fault

  -- the first fault of a certificate in its leg; C6 where there is no such leg
  abbrev pub cert_fault_in : Option Leg → Cert → Option CertFault
  cert_fault_in None cert = Some NoLeg
  cert_fault_in (Some leg) cert = cert_fault model leg cert.claim cert

  -- the first fault of an input's certificate, if it has one
  abbrev pub answer_to : CheckInput → Option CertFault
  answer_to input = cert_fault_in (leg_numbered model input.trace input.cert.leg) input.cert

  -- what the certificate claims holds of the leg that it names
  abbrev pub HoldsInTrace : CheckInput → Type 0
  HoldsInTrace input =
      (leg : Leg) × (leg_numbered model input.trace input.cert.leg ≡ Some leg) × Holds model leg input.cert

-- ---- The text

-- the event of a fault, where it has one
abbrev pub event_of : CertFault → Option ℕ
event_of (NotOnStack event) = Some event
event_of (NoBlame event) = Some event
event_of (Gap event) = Some event
event_of (BadBirth event) = Some event
event_of NoSuchGroup = None
event_of NoLeg = None
event_of NoMemory = None

abbrev pub event_words : Option ℕ → List (List ℕ)
event_words None = []
event_words (Some event) = decimal event ∷ []

-- the words of an answer
abbrev pub answer_words : Option CertFault → List (List ℕ)
answer_words None = codes "accepted" ∷ []
answer_words (Some fault) = codes "refused" ∷ (codes "C" ++ decimal (fault_number fault)) ∷ event_words (event_of fault)

-- ---- The reader

-- a reader gave the spelling of a trace and a certificate of which this holds, and nothing is left
abbrev pub ReadsInput : Option (List ℕ) → Option (List ℕ) → (CheckInput → Type 0) → Type 0
ReadsInput old new P =
    (input : CheckInput) × IsInput input × ReadsAll old new (input_text input) × P input
