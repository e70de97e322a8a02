use Rattle.std.proofs.Common.{ap, sym, codes, ◌∷◌, ◌++◌, [], decimal}
use Rattle.std.specs.Fmt.{digits}
use Rattle.lp_definitions.specs.Events.{refusal_number}
use Rattle.lp_definitions.specs.declared.refusal.Refusal.{Refusal}
use Rattle.lp_text.specs.inside.Writing.{line_rest}
use Rattle.lp_trace.proofs.report.events.refused_rest.Goals as goal

pub returns-in-UnknownTask-clause-words : goal.returns-in-UnknownTask-clause-words
unfolding digits
returns-in-UnknownTask-clause-words c =
    sym (ap (λ (why : Refusal). line_rest (codes "refused" ∷ (codes "E" ++ decimal (refusal_number why)) ∷ [])) c.in-UnknownTask.is)

pub returns-in-UnknownSymbol-clause-words : goal.returns-in-UnknownSymbol-clause-words
unfolding digits
returns-in-UnknownSymbol-clause-words c =
    sym (ap (λ (why : Refusal). line_rest (codes "refused" ∷ (codes "E" ++ decimal (refusal_number why)) ∷ [])) c.in-UnknownSymbol.is)

pub returns-in-TaskRange-clause-words : goal.returns-in-TaskRange-clause-words
unfolding digits
returns-in-TaskRange-clause-words c =
    sym (ap (λ (why : Refusal). line_rest (codes "refused" ∷ (codes "E" ++ decimal (refusal_number why)) ∷ [])) c.in-TaskRange.is)

pub returns-in-TaskUsed-clause-words : goal.returns-in-TaskUsed-clause-words
unfolding digits
returns-in-TaskUsed-clause-words c =
    sym (ap (λ (why : Refusal). line_rest (codes "refused" ∷ (codes "E" ++ decimal (refusal_number why)) ∷ [])) c.in-TaskUsed.is)

pub returns-in-WrongClass-clause-words : goal.returns-in-WrongClass-clause-words
unfolding digits
returns-in-WrongClass-clause-words c =
    sym (ap (λ (why : Refusal). line_rest (codes "refused" ∷ (codes "E" ++ decimal (refusal_number why)) ∷ [])) c.in-WrongClass.is)

pub returns-in-WrongMode-clause-words : goal.returns-in-WrongMode-clause-words
unfolding digits
returns-in-WrongMode-clause-words c =
    sym (ap (λ (why : Refusal). line_rest (codes "refused" ∷ (codes "E" ++ decimal (refusal_number why)) ∷ [])) c.in-WrongMode.is)

pub returns-in-StackFull-clause-words : goal.returns-in-StackFull-clause-words
unfolding digits
returns-in-StackFull-clause-words c =
    sym (ap (λ (why : Refusal). line_rest (codes "refused" ∷ (codes "E" ++ decimal (refusal_number why)) ∷ [])) c.in-StackFull.is)

pub returns-in-StackEmpty-clause-words : goal.returns-in-StackEmpty-clause-words
unfolding digits
returns-in-StackEmpty-clause-words c =
    sym (ap (λ (why : Refusal). line_rest (codes "refused" ∷ (codes "E" ++ decimal (refusal_number why)) ∷ [])) c.in-StackEmpty.is)

pub returns-in-StackNotEmpty-clause-words : goal.returns-in-StackNotEmpty-clause-words
unfolding digits
returns-in-StackNotEmpty-clause-words c =
    sym (ap (λ (why : Refusal). line_rest (codes "refused" ∷ (codes "E" ++ decimal (refusal_number why)) ∷ [])) c.in-StackNotEmpty.is)

pub returns-in-InTransition-clause-words : goal.returns-in-InTransition-clause-words
unfolding digits
returns-in-InTransition-clause-words c =
    sym (ap (λ (why : Refusal). line_rest (codes "refused" ∷ (codes "E" ++ decimal (refusal_number why)) ∷ [])) c.in-InTransition.is)

pub returns-in-NotInTransition-clause-words : goal.returns-in-NotInTransition-clause-words
unfolding digits
returns-in-NotInTransition-clause-words c =
    sym (ap (λ (why : Refusal). line_rest (codes "refused" ∷ (codes "E" ++ decimal (refusal_number why)) ∷ [])) c.in-NotInTransition.is)

pub returns-in-AlreadyThere-clause-words : goal.returns-in-AlreadyThere-clause-words
unfolding digits
returns-in-AlreadyThere-clause-words c =
    sym (ap (λ (why : Refusal). line_rest (codes "refused" ∷ (codes "E" ++ decimal (refusal_number why)) ∷ [])) c.in-AlreadyThere.is)
