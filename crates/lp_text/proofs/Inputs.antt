-- Bytes that were read one piece after another.
use Rattle.std.proofs.Common.{List, ℕ, [], ◌++◌, Option, None, Some, refl, sym, ap, ◌∙◌, append_assoc}
use Rattle.std.specs.Io.KnownBytes.{Consumes}

pub consumes_more : (a b c : Option (List ℕ)) (x y : List ℕ) → Consumes a b x → Consumes b c y → Consumes a c (x ++ y)
consumes_more None b c x y h k = tt
consumes_more (Some xs) None c x y h k = absurd h
consumes_more (Some xs) (Some ys) None x y h k = absurd k
consumes_more (Some xs) (Some ys) (Some zs) x y h k = h ∙ ap (λ l. x ++ l) k ∙ sym (append_assoc x y zs)

pub consumes_none : (a : Option (List ℕ)) → Consumes a a []
consumes_none None = tt
consumes_none (Some xs) = refl
