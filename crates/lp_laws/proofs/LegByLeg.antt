-- The replies of a run, leg by leg.
use Rattle.std.proofs.Common.{◌≡◌, ◌+◌, ◌<◌, ◌≤◌, ℕ, zero, suc, pred, Bool, true, false, List, [], ◌∷◌, ◌++◌, map, length, take, drop, All, if◌then◌else◌, refl, sym, ap, ap₂, ◌∙◌, subst, arith, length-append, append_assoc}
use Rattle.std.specs.List.{range_with_len}
use Rattle.std.proofs.lemmas.Bool.{and_parts, cond_both}
use Rattle.std.proofs.lemmas.List.{map-append, length-drop, take_all, take-append-le, drop-append-le}
use Rattle.std.proofs.lemmas.List.Elements.{All-nil, All-cons}
use Rattle.std.proofs.lemmas.List.FromFn.{map-range_with_len_more}
use Rattle.lp_model.specs.Rules.{Rules, IsLawful}
use Rattle.lp_definitions.specs.declared.event.Event.{Event}
use Rattle.lp_definitions.specs.declared.reply.Reply.{Reply}
use Rattle.lp_definitions.specs.Leg.{Leg}
use Rattle.lp_definitions.specs.Schedule.{first_check}
use Rattle.lp_definitions.specs.Sound.{IsSound}
use Rattle.lp_definitions.specs.Run.{Run, AreInRange, and_then, first_leg, switched_at, opened, opens, next_leg, reply, replies}
use Rattle.lp_laws.proofs.WholeRun.{next_sound, start_sound}
use Rattle.lp_definitions.specs.Certificates.{legs, opened_legs}
use Rattle.lp_laws.proofs.GroupsInRange.{GroupsAreInRange, next_in_range, start_in_range}
use Rattle.lp_definitions.specs.Headline.{switched_groups, replies_in, CallsRunTheirFrames}
use Rattle.lp_laws.proofs.Switching.{control_switches_none, none_at_opening, past_switched, reply_names}
use Rattle.lp_laws.proofs.Versions.{AreTold, told_at_opening, told_in_leg, told_longer as versions_longer}

-- the groups that replies name
abbrev names : List Reply → List (List ℕ)
names = map (λ reply. switched_groups reply.what)

drop_whole : {A : Type 0} (xs ys : List A) → drop (length xs) (xs ++ ys) ≡ ys
drop_whole [] ys = refl
drop_whole (x ∷ xs) ys = drop_whole xs ys

module _ (model : Rules) (lawful : IsLawful model) where
  -- whom the first-check schedule of a leg switches, at its opening and at each of its events
  abbrev switches : Leg → List (List ℕ)
  switches leg = map (switched_at leg (first_check model leg)) (range_with_len 0 (suc (length leg.events)))

  -- a leg of a run, with the replies to the run
  pub record IsLeg (answered : List Reply) (leg : Leg) : Type 0 where
    pub sound : IsSound leg.opening
    pub in_range : GroupsAreInRange leg.opening
    pub few : leg.number + length leg.events ≤ 1000000
    pub named : names (replies_in leg answered) ≡ switches leg
    pub calls : CallsRunTheirFrames model leg (first_check model leg) answered

  -- the leg under way after these replies
  record IsUnderWay (before : List Reply) (leg : Leg) : Type 0 where
    sound : IsSound leg.opening
    in_range : GroupsAreInRange leg.opening
    numbered : length before ≡ leg.number + length leg.events

  -- what they name, where an event opened it
  record IsTold (before : List Reply) (leg : Leg) : Type 0 where
    opened : 0 < leg.number
    named : names (drop (pred leg.number) before) ≡ switches leg
    versions : AreTold model before leg

  -- ---- One event more

  next_is : (leg : Leg) (event : Event) (b : Bool) → opens model leg event ≡ b → next_leg model leg event ≡ (if b then opened model leg event else and_then leg event)
  unfolding next_leg
  next_is leg event b e = ap (λ c. if c then opened model leg event else and_then leg event) e

  abbrev and_reply : List Reply → Leg → Event → List Reply
  and_reply before leg event = before ++ reply model leg event ∷ []

  longer_by_one : (leg : Leg) (event : Event) → (next_leg model leg event).number + length (next_leg model leg event).events ≡ suc (leg.number + length leg.events)
  unfolding next_leg
  longer_by_one leg event =
      cond_both (opens model leg event) (opened model leg event) (and_then leg event) (λ l. l.number + length l.events ≡ suc (leg.number + length leg.events)) (λ e. omega arith) (λ e. omega (arith, length-append leg.events (event ∷ [])))

  one_more : (before : List Reply) (leg : Leg) (event : Event) → IsUnderWay before leg → IsUnderWay (and_reply before leg event) (next_leg model leg event)
  one_more before leg event h =
      record {
        sound = next_sound model lawful leg event h.sound;
        in_range = next_in_range model lawful leg event h.in_range;
        numbered = omega (arith, length-append before (reply model leg event ∷ []), h.numbered, longer_by_one leg event);
      }

  -- an event that opens a leg switches nobody
  told_opened : (before : List Reply) (leg : Leg) (event : Event) → IsUnderWay before leg → opens model leg event ≡ true → IsTold (and_reply before leg event) (next_leg model leg event)
  told_opened before leg event h e =
      subst (IsTold (and_reply before leg event)) (sym (next_is leg event true e)) (record {
        opened = omega arith;
        named =
            let place : pred (leg.number + suc (length leg.events)) ≡ length before = omega (arith, h.numbered) in
            let control = (and_parts _ _ e).0 in
            ap (λ n. names (drop n (and_reply before leg event))) place
            ∙ (ap names (drop_whole before (reply model leg event ∷ []))
            ∙ ap (λ groups. groups ∷ []) (reply_names model leg event ∙ (control_switches_none model leg event control ∙ sym (none_at_opening model (opened model leg event)))));
        versions = told_at_opening model (and_reply before leg event) (opened model leg event) refl;
      })

  -- any other continues the leg
  told_longer : (before : List Reply) (leg : Leg) (event : Event) → IsUnderWay before leg → IsTold before leg → opens model leg event ≡ false → IsTold (and_reply before leg event) (next_leg model leg event)
  told_longer before leg event h told e =
      subst (IsTold (and_reply before leg event)) (sym (next_is leg event false e)) (record {
        opened = told.opened;
        named =
            let longer = and_then leg event in
            let n = length leg.events in
            let long : length longer.events ≡ suc n = omega (arith, length-append leg.events (event ∷ [])) in
            let at = pred leg.number in
            let r = reply model leg event ∷ [] in
            let f = switched_at longer (first_check model longer) in
            let same_end : suc n + 1 ≡ suc (length longer.events) = omega (arith, long) in
            ap names (drop-append-le at before r (omega (arith, h.numbered)))
            ∙ (map-append (λ (reply : Reply). switched_groups reply.what) (drop at before) r
            ∙ (ap₂ (λ prefix last. prefix ++ last ∷ []) (told.named ∙ before_same 0 (suc n) (omega arith)) (reply_names model leg event)
            ∙ (sym (map-range_with_len_more f 0 (suc n) (suc n) (omega arith)) ∙ ap (λ m. map f (range_with_len 0 m)) same_end)));
        versions = versions_longer model before leg event h.numbered told.versions;
      })
    where
      before_same : (a m : ℕ) → a + m ≤ suc (length leg.events) → map (switched_at leg (first_check model leg)) (range_with_len a m) ≡ map (switched_at (and_then leg event) (first_check model (and_then leg event))) (range_with_len a m)
      before_same a zero le = refl
      before_same a (suc m) le = ap₂ (λ groups rest. groups ∷ rest) (sym (past_switched model leg event a (omega arith))) (before_same (a + 1) m (omega arith))

  -- ---- The legs

  -- whatever is answered after the leg
  of_leg : (before after : List Reply) (leg : Leg) → IsUnderWay before leg → IsTold before leg → length before ≤ 1000000 → IsLeg (before ++ after) leg
  of_leg before after leg h told few =
      let at = pred leg.number in
      let n = suc (length leg.events) in
      let long : length (drop at before) ≡ n = omega (arith, length-drop at before, h.numbered, told.opened) in
      record {
        sound = h.sound;
        in_range = h.in_range;
        few = omega (arith, few, h.numbered);
        named =
            ap names (ap (take n) (drop-append-le at before after (omega (arith, h.numbered))) ∙ (take-append-le n (drop at before) after (omega (arith, long)) ∙ take_all n (drop at before) (omega (arith, long))))
            ∙ told.named;
        calls = told_in_leg model before after leg told.opened h.numbered told.versions;
      }

  abbrev AreLegs : List Reply → Leg → List Event → List Leg → Type 0
  AreLegs before leg events = All (IsLeg (before ++ replies model leg events))

  -- the replies to come, one of them put after those before
  put_after : (before : List Reply) (leg : Leg) (event : Event) (events : List Event) (ls : List Leg) → AreLegs (and_reply before leg event) (next_leg model leg event) events ls → AreLegs before leg (event ∷ events) ls
  unfolding replies
  put_after before leg event events ls h =
      subst (λ answered. All (IsLeg answered) ls) (append_assoc before (reply model leg event ∷ []) (replies model (next_leg model leg event) events)) h

  count : (before : List Reply) (leg : Leg) (event : Event) (events : List Event) → length before + length (event ∷ events) ≤ 1000000 → length (and_reply before leg event) + length events ≤ 1000000
  count before leg event events few = omega (arith, few, length-append before (reply model leg event ∷ []))

  all_legs : (before : List Reply) (leg : Leg) (events : List Event) → IsUnderWay before leg → IsTold before leg → length before + length events ≤ 1000000 → AreLegs before leg events (legs model leg events)
  unfolding legs
  all_legs before leg [] h told few = All-cons (IsLeg _) leg [] (of_leg before _ leg h told (omega (arith, few))) (All-nil (IsLeg _))
  all_legs before leg (event ∷ events) h told few =
      let rest = legs model (next_leg model leg event) events in
      let more : IsTold (and_reply before leg event) (next_leg model leg event) → AreLegs before leg (event ∷ events) rest = λ t. put_after before leg event events rest (all_legs (and_reply before leg event) (next_leg model leg event) events (one_more before leg event h) t (count before leg event events few)) in
      cond_both (opens model leg event) (leg ∷ []) [] (λ prefix. AreLegs before leg (event ∷ events) (prefix ++ rest))
      (λ e. All-cons (IsLeg _) leg rest (of_leg before _ leg h told (omega (arith, few))) (more (told_opened before leg event h e)))
      (λ e. more (told_longer before leg event h told e))

  -- the legs that control events open, from a leg that none opened
  all_opened : (before : List Reply) (leg : Leg) (events : List Event) → IsUnderWay before leg → length before + length events ≤ 1000000 → AreLegs before leg events (opened_legs model leg events)
  unfolding legs
  all_opened before leg [] h few = All-nil (IsLeg _)
  all_opened before leg (event ∷ events) h few =
      let next = next_leg model leg event in
      let u = one_more before leg event h in
      let c = count before leg event events few in
      cond_both (opens model leg event) (leg ∷ []) [] (λ prefix. AreLegs before leg (event ∷ events) (drop 1 (prefix ++ legs model next events)))
      (λ e. put_after before leg event events (legs model next events) (all_legs (and_reply before leg event) next events u (told_opened before leg event h e) c))
      (λ e. put_after before leg event events (opened_legs model next events) (all_opened (and_reply before leg event) next events u c))

  pub legs_of : (run : Run) → AreInRange run.bounds run.boots → length run.events ≤ 1000000 → All (IsLeg (replies model (first_leg model run) run.events)) (opened_legs model (first_leg model run) run.events)
  legs_of run in_range few =
      let sound = start_sound model lawful run.bounds run.patches run.boots in_range in
      all_opened [] (first_leg model run) run.events (record { sound = sound; in_range = start_in_range model lawful run.bounds run.patches run.boots sound; numbered = refl }) (omega (arith, few))
