-- Lists that are made one by one, and what stands at a place of them.
use Rattle.std.proofs.Common.{◌≡◌, ℕ, zero, suc, ◌<◌, List, [], ◌∷◌, ◌++◌, length, map, get_or, slice_get, Option, Some, append_assoc, sym, ap, ap₂, ◌∙◌, arith}
use Rattle.std.specs.Option.{option_map}
use Rattle.std.proofs.lemmas.List.{append-nil}
use Rattle.lp_numbers.specs.Ascending.{members_from}
use Rattle.lp_numbers.specs.Numbers.{Numbers, has}
use Rattle.lp_tasks.proofs.AscendingLemmas.{members-passing}
use Rattle.lp_tasks.specs.Passing.{passing}
use Rattle.lp_definitions.specs.declared.cert.Cert.{Cert}
use Rattle.lp_cert.specs.declared.cert_head.CertHead.{CertHead}
use Rattle.lp_cert.specs.Ends.{cert_head}

-- ---- The members of a set

module _ {A : Type 0} (f : ℕ → A) where
  pub none_listed : (set : Numbers) (list : List A) (left : List ℕ) → list ≡ [] → left ≡ members_from 0 set → list ++ map f left ≡ map f (passing 0 65536 (has set))
  none_listed set list left none all = ap₂ (λ (l : List A) (ns : List ℕ). l ++ map f ns) none all ∙ ap (map f) (members-passing set)

  pub one_listed : (list longer all : List A) (n : ℕ) (left rest : List ℕ) → list ++ map f left ≡ all → longer ≡ list ++ f n ∷ [] → left ≡ n ∷ rest → longer ++ map f rest ≡ all
  one_listed list longer all n left rest so more step =
      let joined : (list ++ f n ∷ []) ++ map f rest ≡ list ++ f n ∷ map f rest = rw append_assoc in
      ap (λ (l : List A). l ++ map f rest) more ∙ (joined ∙ (ap (λ (ns : List ℕ). list ++ map f ns) (sym step) ∙ so))

  pub all_listed : (list all : List A) (left : List ℕ) → list ++ map f left ≡ all → left ≡ [] → list ≡ all
  all_listed list all left so none = sym (append-nil list) ∙ (ap (λ (ns : List ℕ). list ++ map f ns) (sym none) ∙ so)

-- ---- At a place

pub mapped_at : {A B : Type 0} (f : A → B) (xs : List A) (k : ℕ) (x : A) → k < length (map f xs) → x ≡ get_or xs k x → slice_get (map f xs) k ≡ Some (f x)
mapped_at f [] k x within is = absurd (omega arith)
mapped_at f (y ∷ ys) zero x within is = ap (λ z. Some (f z)) (sym is)
mapped_at f (y ∷ ys) (suc k) x within is = mapped_at f ys k x (omega arith) is

pub headed : (certs : List Cert) (k : ℕ) (cert : Cert) (leg upto : ℕ) → slice_get certs k ≡ Some cert → leg ≡ cert.leg → upto ≡ cert.upto
    → option_map cert_head (slice_get certs k) ≡ Some (record { claim = cert.claim; leg = leg; group = cert.group; upto = upto })
headed certs k cert leg upto is opened up =
    let head : ℕ → ℕ → Option CertHead = λ m n. Some (record { claim = cert.claim; leg = m; group = cert.group; upto = n }) in
    ap (option_map cert_head) is ∙ ap₂ head (sym opened) (sym up)
