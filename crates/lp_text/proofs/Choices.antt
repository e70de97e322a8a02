-- What is known where a choice or a step gave a value.
use Rattle.std.proofs.Common.{◌≡◌, Bool, true, false, Option, None, Some, Result, Ok, Err, cond, subst, refl, ◌⊎◌, inl, inr}
use Rattle.std.specs.Prelude.{IfNone, IfSome}
use Rattle.lp_text.specs.Reading.{◌>>=◌}

pub chosen : {A : Type 0} (b : Bool) (x y z : A) → cond b x y ≡ z → ((b ≡ true) × (x ≡ z)) ⊎ ((b ≡ false) × (y ≡ z))
chosen true x y z h = inl (refl, h)
chosen false x y z h = inr (refl, h)

pub guard_ok : {A E : Type 0} (b : Bool) (why : E) (x : Result A E) (y : A) → cond b (Err why) x ≡ Ok y → (b ≡ false) × (x ≡ Ok y)
guard_ok true why x y h = absurd (cc h)
guard_ok false why x y h = (refl, h)

pub pass_ok : {A E : Type 0} (b : Bool) (why : E) (x : Result A E) (y : A) → cond b x (Err why) ≡ Ok y → (b ≡ true) × (x ≡ Ok y)
pass_ok true why x y h = (refl, h)
pass_ok false why x y h = absurd (cc h)

pub bind_ok : {A B E : Type 0} (r : Result A E) (f : A → Result B E) (y : B) → (r >>= f) ≡ Ok y → (x : A) × (r ≡ Ok x) × (f x ≡ Ok y)
bind_ok (Ok x) f y h = (x, refl, h)
bind_ok (Err e) f y h = absurd (cc h)

pub ok_is : {A E : Type 0} {x y : A} → ◌≡◌ {A = Result A E} (Ok x) (Ok y) → x ≡ y
ok_is h = cc h

pub at_some : {A : Type 0} (P : A → Type 0) (o : Option A) (x : A) → IfSome o P → o ≡ Some x → P x
at_some {A} P o x h e = let Q : Option A → Type 0 = λ o. IfSome o P in subst Q e h

pub at_none : {A : Type 0} (P : Type 0) (o : Option A) → IfNone o P → o ≡ None → P
at_none P None h e = h
at_none P (Some x) h e = absurd (cc e)
