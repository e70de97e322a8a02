-- Each step keeps the rule.
use Rattle.std.proofs.Common.{◌≡◌, ◌≢◌, ◌⊎◌, ℕ, zero, suc, ◌+◌, List, [], ◌∷◌, ◌++◌, set, Option, Some, None, Bool, true, false, true≢false, refl, sym, ap, ◌∙◌, length, subst, inl, inr, ⊎_elim, arith, cond}
use Rattle.std.proofs.lemmas.Bool.{cases_Bool, cond-true, cond-false, eqb-true, eq-eqb}
use Rattle.std.specs.Prelude.{filter, if◌then◌else◌, nat_eq}
use mathlib.Core.Option.{some, some-ne-none, some-injective}
use lib.ListN.{get_elem?}
use Rattle.crossbeam_utils.specs.Register.{Turns, Forks, Merges}
use Rattle.atomic_table.proofs.Lists.{at_set, at_snoc, set_again}
use Rattle.lp_parts.specs.declared.rule.View.{View}
use Rattle.lp_parts.specs.Parts.{same_key, Among, without, part_for, keeper, owner, nobody, rid, handed, taking, with_part, with_entry, with_back, Apart, Knows, Fits, Kept, TakesUp, Adds, AddsNamed, GivesBack}

off : {A : Type 0} → false ≡ true → A
off e = absurd (true≢false (sym e))

-- ---- Keys

pub key_is : (k j : Option ℕ) → same_key k j ≡ true → k ≡ j
key_is (Some t) (Some u) e = ap Some (eqb-true t u e)
key_is (Some t) None e = off e
key_is None (Some u) e = off e
key_is None None e = refl

pub key_self : (k : Option ℕ) → same_key k k ≡ true
key_self (Some t) = eq-eqb t t refl
key_self None = refl

pub key_other : (k j : Option ℕ) → k ≢ j → same_key k j ≡ false
key_other k j ne =
    ⊎_elim
    (λ (e : same_key k j ≡ true). absurd (ne (key_is k j e)))
    (λ (e : same_key k j ≡ false). e)
    (cases_Bool (same_key k j))

among_without : (k j : Option ℕ) (out : List (Option ℕ)) → k ≢ j → Among j out → Among j (without k out)
among_without k j [] ne at = at
among_without k j (x ∷ xs) ne at =
    ⊎_elim
    (λ (e : same_key k x ≡ true).
    subst (Among j) (sym (cond-true (same_key k x) (without k xs) (x ∷ without k xs) e))
    (⊎_elim (λ (here : x ≡ j). absurd (ne (key_is k x e ∙ here))) (λ (there : Among j xs). among_without k j xs ne there) at))
    (λ (e : same_key k x ≡ false).
    subst (Among j) (sym (cond-false (same_key k x) (without k xs) (x ∷ without k xs) e))
    (⊎_elim (λ (here : x ≡ j). inl here) (λ (there : Among j xs). inr (among_without k j xs ne there)) at))
    (cases_Bool (same_key k x))

module _ {E : Type 0} (key : E → Option ℕ) where
  -- ---- Parts of a longer list

  filter_snoc : (test : E → Bool) (b : Bool) (xs : List E) (e : E) → test e ≡ b → filter test (xs ++ e ∷ []) ≡ (if b then (filter test xs ++ e ∷ []) else filter test xs)
  filter_snoc test true [] e is = cond-true (test e) (e ∷ []) [] is
  filter_snoc test false [] e is = cond-false (test e) (e ∷ []) [] is
  filter_snoc test b (x ∷ xs) e is =
      ⊎_elim
      (λ (c : test x ≡ true).
      cond-true (test x) (x ∷ filter test (xs ++ e ∷ [])) (filter test (xs ++ e ∷ [])) c
      ∙ ap (λ rest. x ∷ rest) (filter_snoc test b xs e is)
      ∙ pushed x b (filter test xs)
      ∙ sym (ap (λ front. if b then (front ++ e ∷ []) else front) (cond-true (test x) (x ∷ filter test xs) (filter test xs) c)))
      (λ (c : test x ≡ false).
      cond-false (test x) (x ∷ filter test (xs ++ e ∷ [])) (filter test (xs ++ e ∷ [])) c
      ∙ filter_snoc test b xs e is
      ∙ sym (ap (λ front. if b then (front ++ e ∷ []) else front) (cond-false (test x) (x ∷ filter test xs) (filter test xs) c)))
      (cases_Bool (test x))
    where
      pushed : (x : E) (b : Bool) (ys : List E) → x ∷ (if b then (ys ++ e ∷ []) else ys) ≡ (if b then ((x ∷ ys) ++ e ∷ []) else (x ∷ ys))
      pushed x true ys = refl
      pushed x false ys = refl

  pub part_own : (k : Option ℕ) (log : List E) (e : E) → key e ≡ k → part_for key k (log ++ e ∷ []) ≡ part_for key k log ++ e ∷ []
  part_own k log e is = filter_snoc (λ x. same_key k (key x)) true log e (ap (same_key k) is ∙ key_self k)

  pub part_other : (k : Option ℕ) (log : List E) (e : E) → k ≢ key e → part_for key k (log ++ e ∷ []) ≡ part_for key k log
  part_other k log e ne = filter_snoc (λ x. same_key k (key x)) false log e (key_other k (key e) ne)

  -- ---- One view changes

  -- who owns what the changed view owns is that view
  abbrev Alone : List (View E) → ℕ → View E → Type 0
  Alone views by w = w.owns ≡ true → (j : ℕ) (u : View E) → j ≢ by → get_elem? views j ≡ some u → u.owns ≡ true → u.of ≡ w.of → ⊥

  apart_set : (views : List (View E)) (by : ℕ) (w : View E) → Apart views → Alone views by w → Apart (set views by w)
  apart_set views by w apart alone i j u v at_i at_j owns_u owns_v same =
      ⊎_elim
      (λ (a : (i ≡ by) × (w ≡ u)). ⊎_elim
      (λ (b : (j ≡ by) × (w ≡ v)). a.0 ∙ sym b.0)
      (λ (b : (j ≢ by) × (get_elem? views j ≡ some v)). absurd (alone (ap (λ (x : View E). x.owns) a.1 ∙ owns_u) j v b.0 b.1 owns_v (sym same ∙ ap (λ (x : View E). x.of) (sym a.1))))
      (at_set views by j w v at_j))
      (λ (a : (i ≢ by) × (get_elem? views i ≡ some u)). ⊎_elim
      (λ (b : (j ≡ by) × (w ≡ v)). absurd (alone (ap (λ (x : View E). x.owns) b.1 ∙ owns_v) i u a.0 a.1 owns_u (same ∙ ap (λ (x : View E). x.of) (sym b.1))))
      (λ (b : (j ≢ by) × (get_elem? views j ≡ some v)). apart i j u v a.1 b.1 owns_u owns_v same)
      (at_set views by j w v at_j))
      (at_set views by i w u at_i)

  fits_set : (seat : ℕ) (log : List E) (out : List (Option ℕ)) (views : List (View E)) (by : ℕ) (w : View E) → ((j : ℕ) (u : View E) → j ≢ by → get_elem? views j ≡ some u → Fits key seat log out j u) → Fits key seat log out by w → (j : ℕ) (u : View E) → get_elem? (set views by w) j ≡ some u → Fits key seat log out j u
  fits_set seat log out views by w others mine j u e =
      ⊎_elim
      (λ (x : (j ≡ by) × (w ≡ u)). subst (λ (y : ℕ × View E). Fits key seat log out y.0 y.1) (λ i. (sym x.0 i, x.1 i)) mine)
      (λ (x : (j ≢ by) × (get_elem? views j ≡ some u)). others j u x.0 x.1)
      (at_set views by j w u e)

  -- ---- The steps

  pub begins : (words : List ℕ) → Kept key words (keeper [] [] ∷ [])
  begins words = record { seat = 0; log = []; out = []; fits = one; apart = alone }
    where
      one : (by : ℕ) (v : View E) → get_elem? (keeper [] [] ∷ []) by ≡ some v → Fits key 0 [] [] by v
      one zero v e = subst (Fits key 0 [] [] 0) (some-injective (keeper [] []) v e) (record { keeper_is = λ _. (refl, refl, refl); owner_is = λ c. off c })
      one (suc by) v e = absurd (some-ne-none v (sym e))

      alone : Apart {E = E} (keeper [] [] ∷ [])
      alone zero j v w at_i at_j owns_v owns_w same = off (ap (λ (x : View E). x.owns) (some-injective (keeper [] []) v at_i) ∙ owns_v)
      alone (suc i) j v w at_i at_j owns_v owns_w same = absurd (some-ne-none v (sym at_i))

  -- nobody owned the key's part, of which nothing is there
  pub takes_up : (by : ℕ) (v : View E) (k : Option ℕ) → v.keeps ≡ true → (Among k v.out → ⊥) → part_for key k v.all ≡ [] → Turns (Kept key) by v (λ x. x) (TakesUp k)
  takes_up by v k keeps free none words views h at =
      let mine = (h.fits by v at).keeper_is keeps in
      let w = with_part k v in (
        w,
        record {
          seat = h.seat;
          log = h.log;
          out = k ∷ h.out;
          fits = fits_set h.seat h.log (k ∷ h.out) views by w
              (λ j u apart e. let f = h.fits j u e in record {
                keeper_is = λ u_keeps. absurd (apart ((f.keeper_is u_keeps).0 ∙ sym mine.0));
                owner_is = λ owns. ((f.owner_is owns).0, inr (f.owner_is owns).1);
              })
              (record {
                keeper_is = λ _. (mine.0, mine.1, ap (λ rest. k ∷ rest) mine.2);
                owner_is = λ _. (sym none ∙ ap (part_for key k) mine.1, inl refl);
              });
          apart = apart_set views by w h.apart
              (λ _ j u apart e owns same. free (subst (λ (o : List (Option ℕ)). Among k o) (sym mine.2) (subst (λ (x : Option ℕ). Among x h.out) same ((h.fits j u e).owner_is owns).1)));
        },
        refl,
      )

  pub adds : (by : ℕ) (v : View E) (e : E) → v.keeps ≡ true → v.owns ≡ true → key e ≡ v.of → Turns (Kept key) by v (λ x. x) (Adds key e)
  adds by v e keeps owns own words views h at =
      let mine = (h.fits by v at).keeper_is keeps in
      let held = (h.fits by v at).owner_is owns in
      let w = with_entry e v in (
        w,
        record {
          seat = h.seat;
          log = h.log ++ e ∷ [];
          out = h.out;
          fits = fits_set h.seat (h.log ++ e ∷ []) h.out views by w
              (λ j u apart at_j. let f = h.fits j u at_j in record {
                keeper_is = λ u_keeps. absurd (apart ((f.keeper_is u_keeps).0 ∙ sym mine.0));
                owner_is = λ u_owns. (
                  (f.owner_is u_owns).0 ∙ sym (part_other u.of h.log e (λ same. apart (h.apart j by u v at_j at u_owns owns (same ∙ own)))),
                  (f.owner_is u_owns).1,
                );
              })
              (record {
                keeper_is = λ _. (mine.0, ap (λ l. l ++ e ∷ []) mine.1, mine.2);
                owner_is = λ _. (ap (λ l. l ++ e ∷ []) held.0 ∙ sym (part_own v.of h.log e own), held.1);
              });
          apart = apart_set views by w h.apart
              (λ _ j u apart at_j u_owns same. apart (h.apart j by u v at_j at u_owns owns same));
        },
        (refl, record { is_part = held.0 ∙ ap (part_for key v.of) (sym mine.1); among = subst (Among v.of) (sym mine.2) held.1 }),
      )

  pub gives_back : (by : ℕ) (v : View E) → v.keeps ≡ true → v.owns ≡ true → Turns (Kept key) by v (λ x. x) (GivesBack key)
  gives_back by v keeps owns words views h at =
      let mine = (h.fits by v at).keeper_is keeps in
      let held = (h.fits by v at).owner_is owns in
      let w = with_back v in (
        w,
        record {
          seat = h.seat;
          log = h.log;
          out = without v.of h.out;
          fits = fits_set h.seat h.log (without v.of h.out) views by w
              (λ j u apart at_j. let f = h.fits j u at_j in record {
                keeper_is = λ u_keeps. absurd (apart ((f.keeper_is u_keeps).0 ∙ sym mine.0));
                owner_is = λ u_owns. (
                  (f.owner_is u_owns).0,
                  among_without v.of u.of h.out (λ same. apart (h.apart j by u v at_j at u_owns owns (sym same))) (f.owner_is u_owns).1,
                );
              })
              (record { keeper_is = λ _. (mine.0, mine.1, ap (without v.of) mine.2); owner_is = λ c. off c });
          apart = apart_set views by w h.apart (λ c. off c);
        },
        (refl, record { is_part = held.0 ∙ ap (part_for key v.of) (sym mine.1); among = subst (Among v.of) (sym mine.2) held.1 }),
      )

  -- ---- Passes that part and meet

  at_end : (l : List (View E)) (a b : View E) (j : ℕ) → get_elem? (l ++ a ∷ []) j ≡ some b → (get_elem? l j ≡ some b) ⊎ ((j ≡ length l) × (a ≡ b))
  at_end [] a b zero e = inr (refl, some-injective a b e)
  at_end [] a b (suc j) e = absurd (some-ne-none b (sym e))
  at_end (x ∷ xs) a b zero e = inl e
  at_end (x ∷ xs) a b (suc j) e = ⊎_elim (λ (i : get_elem? xs j ≡ some b). inl i) (λ (i : (j ≡ length xs) × (a ≡ b)). inr (ap suc i.0, i.1)) (at_end xs a b j e)

  -- who owns what the last view owns is that view
  apart_snoc : (views : List (View E)) (w : View E) → Apart views → ((j : ℕ) (u : View E) → get_elem? views j ≡ some u → u.owns ≡ true → w.owns ≡ true → u.of ≡ w.of → ⊥) → Apart (views ++ w ∷ [])
  apart_snoc views w apart alone i j u v at_i at_j owns_u owns_v same =
      ⊎_elim
      (λ (a : get_elem? views i ≡ some u). ⊎_elim
      (λ (b : get_elem? views j ≡ some v). apart i j u v a b owns_u owns_v same)
      (λ (b : (j ≡ length views) × (w ≡ v)). absurd (alone i u a owns_u (ap (λ (x : View E). x.owns) b.1 ∙ owns_v) (same ∙ ap (λ (x : View E). x.of) (sym b.1))))
      (at_end views w v j at_j))
      (λ (a : (i ≡ length views) × (w ≡ u)). ⊎_elim
      (λ (b : get_elem? views j ≡ some v). absurd (alone j v b owns_v (ap (λ (x : View E). x.owns) a.1 ∙ owns_u) (sym same ∙ ap (λ (x : View E). x.of) (sym a.1))))
      (λ (b : (j ≡ length views) × (w ≡ v)). a.0 ∙ sym b.0)
      (at_end views w v j at_j))
      (at_end views w u i at_i)

  -- the part goes to a new pass
  pub cuts : (by : ℕ) (v : View E) → Forks (Kept key) by v (rid v) (handed v)
  cuts by v words views h at =
      let f = h.fits by v at in
      let fewer : List (View E) = set views by (rid v) in
      let left : (j : ℕ) (u : View E) → get_elem? fewer j ≡ some u → Fits key h.seat h.log h.out j u =
      fits_set h.seat h.log h.out views by (rid v) (λ j u _ e. h.fits j u e) (record { keeper_is = f.keeper_is; owner_is = λ c. off c }) in
      -- who had the part before is nobody else
      let gone : (i : ℕ) (u : View E) → get_elem? fewer i ≡ some u → u.owns ≡ true → v.owns ≡ true → u.of ≡ v.of → ⊥ =
      λ i u e owns_u owns_v same.
      ⊎_elim
      (λ (x : (i ≡ by) × (rid v ≡ u)). off (ap (λ (y : View E). y.owns) x.1 ∙ owns_u))
      (λ (x : (i ≢ by) × (get_elem? views i ≡ some u)). x.0 (h.apart i by u v x.1 at owns_u owns_v same))
      (at_set views by i (rid v) u e)
      in record {
        seat = h.seat;
        log = h.log;
        out = h.out;
        fits = λ j u e.
            ⊎_elim
            (λ (was : get_elem? fewer j ≡ some u). left j u was)
            (λ (same : (j ≡ length fewer) × (handed v ≡ u)). subst (Fits key h.seat h.log h.out j) same.1 (record { keeper_is = λ c. off c; owner_is = f.owner_is }))
            (at_end fewer (handed v) u j e);
        apart = apart_snoc fewer (handed v) (apart_set views by (rid v) h.apart (λ c. off c)) gone;
      }

  -- a pass takes another's part in, which is spent
  pub takes_in : (by : ℕ) (v : View E) (other : ℕ) (u : View E) → Merges (Kept key) by v other u (taking v u) nobody
  takes_in by v other u words views h at ne there =
      let w = taking v u in
      let was : get_elem? views other ≡ some u =
      ⊎_elim (λ (t : (other ≡ by) × (w ≡ u)). absurd (ne t.0)) (λ (t : (other ≢ by) × (get_elem? views other ≡ some u)). t.1) (at_set views by other w u there) in
      let mine : Fits key h.seat h.log h.out by w = record { keeper_is = (h.fits by v at).keeper_is; owner_is = (h.fits other u was).owner_is } in
      let more : List (View E) = set views by w in
      let middle : (j : ℕ) (y : View E) → get_elem? more j ≡ some y → Fits key h.seat h.log h.out j y =
      fits_set h.seat h.log h.out views by w (λ j y _ e. h.fits j y e) mine in
      -- who owns what was taken in is who had it
      let clash : (j : ℕ) (y : View E) → j ≢ other → get_elem? views j ≡ some y → y.owns ≡ true → u.owns ≡ true → y.of ≡ u.of → ⊥ =
      λ j y apart at_j owns_y owns_u same. apart (h.apart j other y u at_j was owns_y owns_u same) in
      record {
        seat = h.seat;
        log = h.log;
        out = h.out;
        fits = fits_set h.seat h.log h.out more other nobody (λ j y _ e. middle j y e) (record { keeper_is = λ c. off c; owner_is = λ c. off c });
        apart = λ i j x y at_i at_j owns_x owns_y same.
            let there_of : (k : ℕ) (z : View E) → get_elem? (set more other nobody) k ≡ some z → z.owns ≡ true → (k ≢ other) × (get_elem? more k ≡ some z) =
            λ k z at_k owns_z. ⊎_elim (λ (t : (k ≡ other) × (nobody ≡ z)). off (ap (λ (q : View E). q.owns) t.1 ∙ owns_z)) (λ (t : (k ≢ other) × (get_elem? more k ≡ some z)). t) (at_set more other k nobody z at_k) in
            let one = there_of i x at_i owns_x in
            let two = there_of j y at_j owns_y in
            ⊎_elim
            (λ (a : (i ≡ by) × (w ≡ x)). ⊎_elim
            (λ (b : (j ≡ by) × (w ≡ y)). a.0 ∙ sym b.0)
            (λ (b : (j ≢ by) × (get_elem? views j ≡ some y)). absurd (clash j y two.0 b.1 owns_y (ap (λ (q : View E). q.owns) a.1 ∙ owns_x) (sym same ∙ ap (λ (q : View E). q.of) (sym a.1))))
            (at_set views by j w y two.1))
            (λ (a : (i ≢ by) × (get_elem? views i ≡ some x)). ⊎_elim
            (λ (b : (j ≡ by) × (w ≡ y)). absurd (clash i x one.0 a.1 owns_x (ap (λ (q : View E). q.owns) b.1 ∙ owns_y) (same ∙ ap (λ (q : View E). q.of) (sym b.1))))
            (λ (b : (j ≢ by) × (get_elem? views j ≡ some y)). h.apart i j x y a.1 b.1 owns_x owns_y same)
            (at_set views by j w y two.1))
            (at_set views by i w x one.1);
      }

  pub adds_named : (by : ℕ) (v : View E) (e : E) (named : Option E) → named ≡ Some e → v.keeps ≡ true → v.owns ≡ true → key e ≡ v.of → Turns (Kept key) by v (λ x. x) (AddsNamed key named)
  adds_named by v e named is keeps owns own = subst (λ (n : Option E). Turns (Kept key) by v (λ x. x) (AddsNamed key n)) (sym is) (adds by v e keeps owns own)

  pub takes_up_named : (by : ℕ) (v : View E) (k named : Option ℕ) → named ≡ k → v.keeps ≡ true → (Among k v.out → ⊥) → part_for key k v.all ≡ [] → Turns (Kept key) by v (λ x. x) (TakesUp named)
  takes_up_named by v k named is keeps free none = subst (λ (n : Option ℕ). Turns (Kept key) by v (λ x. x) (TakesUp n)) (sym is) (takes_up by v k keeps free none)
