-- The answers that an update's flags and the lock's words decide.
use Rattle.std.proofs.Common.{◌≡◌, ◌≢◌, ℕ, ◌-◌, ◌/◌, ◌^◌, ◌≤◌, nat_lt, Bool, true, false, not, ◌||◌, ◌&&◌, ◌==◌, List, [], ◌∷◌, Option}
use Rattle.std.proofs.Common.{Some, None, is_some, refl, ap, sym, subst, ◌∙◌, arith, eq-eqb, ne_eqb}
use Rattle.std.proofs.lemmas.Bool.Decides.{nat_tests}
use Rattle.std.specs.FinMap.{get, len}
use Rattle.bpf_shared.specs.First.{first_of}
use Rattle.bpf_shared.specs.Shape.{Shape, IsMap}
use Rattle.bpf_shared.specs.Store.{Plain}
use Rattle.bpf_shared.specs.Events.{MayRefuse, Updates}
use Rattle.bpf_shared.specs.declared.shapes.MapShape.{MapShape}
use Rattle.bpf_shared.specs.declared.events.Event.TheVariants.{Update}
use Rattle.bpf_shared.specs.declared.events.MapAnswer.{MapAnswer}
use Rattle.bpf_shared.specs.declared.events.MapAnswer.TheVariants.{Done, Invalid, Busy, Exists, Absent, Full, NoMemory}
use Rattle.hop_words.specs.declared.known.Lock.{Lock}
use Rattle.hop_words.specs.Content.{IsShare}
use Rattle.hop_words.specs.Ghost.{shape_at, lock_home}
use Rattle.hop_words.specs.Rule.{image, numbered}
use Rattle.hop_words.specs.Kinds.{IsKeyAbsent, LeadsToElement, AnswersUnderLock, ShowsShortage, SawAllTaken}
use Rattle.hop_words.specs.Locking.{lock_of}
use Rattle.hop_layout.proofs.Maps.{map_is}
use Rattle.hop_words.proofs.CountUp.{four, and_false}
use Rattle.hop_seg.specs.Segment.{Sound as SegSound}
use Rattle.hop_seg.specs.Content.{HasPair, IsAbsent as SegAbsent}
use Rattle.hop_map.specs.LockedSegment.{Locked, Ready, fills_element, is_put}
use Rattle.hop_map.specs.Private.LockedSegment.{seen_words}
use Rattle.hop_map.specs.Private.UnderLock.{LockShows}
use Rattle.hop_map.specs.Private.Updates.{Wants}
use Rattle.hop_map.proofs.Puts.{sound_with, absent_with, leads_with}

second_true : (b0 b1 b2 b3 : Bool) → b0 ≡ false → b1 ≡ true → first_of ((Invalid, b0) ∷ (Exists, b1) ∷ (Absent, b2) ∷ (Full, b3) ∷ []) ≡ Some Exists
second_true b0 b1 b2 b3 e0 e1 = rw (e0, e1) refl

third_true : (b0 b1 b2 b3 : Bool) → b0 ≡ false → b1 ≡ false → b2 ≡ true → first_of ((Invalid, b0) ∷ (Exists, b1) ∷ (Absent, b2) ∷ (Full, b3) ∷ []) ≡ Some Absent
third_true b0 b1 b2 b3 e0 e1 e2 = rw (e0, e1, e2) refl

-- a refused update changes nothing
updates : (m : ℕ) (h : MapShape) (key bytes : List ℕ) (flags : ℕ) (r : MapAnswer) → r ≢ Done → (s : Plain) → MayRefuse s m h key flags r →
    Updates s m h key bytes flags r s
updates m h key bytes flags Done undone s may = absurd (undone refl)
updates m h key bytes flags Invalid undone s may = (may, refl)
updates m h key bytes flags Busy undone s may = (may, refl)
updates m h key bytes flags Exists undone s may = (may, refl)
updates m h key bytes flags Absent undone s may = (may, refl)
updates m h key bytes flags Full undone s may = (may, refl)
updates m h key bytes flags NoMemory undone s may = (may, refl)

some_numbered : (f : ℕ → ℕ) (o : Option ℕ) → is_some (numbered f o) ≡ is_some o
some_numbered f None = refl
some_numbered f (Some e) = refl

module _ (x : Locked) (key bytes : List ℕ) (flags : ℕ) (c : LockShows x.about x.known x.map x.segment)
    (w : Wants x.about x.known x.map x.segment key bytes flags) where
  abbrev k : Lock
  k = lock_of x.known

  more : ℕ → Bool
  more e = is_put k.change e || fills_element x.known.fresh x.map e

  pub judge_sound : SegSound (seen_words x)
  unfolding more
  judge_sound = sound_with x.about x.known x.map x.segment c more

  pub judge_absent : SegAbsent (seen_words x) key → IsKeyAbsent x.about k key
  unfolding more
  judge_absent gone = absent_with x.about x.known x.map x.segment c more key w.home gone

  pub judge_leads : (e : ℕ) → HasPair (seen_words x) key e → LeadsToElement x.about k key e
  unfolding more
  judge_leads e h = leads_with x.about x.known x.map x.segment c more key w.home e h

  -- where it holds of each share that the words can show
  answers : (r : MapAnswer) → r ≢ Done → ShowsShortage x.about x.known k (Update x.map key bytes flags r)
      → ((s : Plain) (before : List ℕ → Option ℕ) → IsShare x.about.seed (shape_at x.about k.map) (lock_home x.about k)
      (image x.about k.first) k.map k.segment before
      → is_some (get (s.maps x.map) key) ≡ is_some (before key) → MayRefuse s x.map (shape_at x.about x.map) key flags r)
      → Ready x.about x.known x.map x.segment → AnswersUnderLock x.about x.known k (Update x.map key bytes flags r)
  answers r undone short may ready =
      let w' : Wants x.about x.known k.map k.segment key bytes flags = subst (λ (t : ℕ). Wants x.about x.known k.map t key bytes flags)
      (sym c.segment) (subst (λ (n : ℕ). Wants x.about x.known n x.segment key bytes flags) (sym c.map) w) in
      record {
        lock = ready.held;
        clean = c.clean;
        quiet = refl;
        runs = w.runs;
        shortage = short;
        allowed = λ s before number shape running share maps. (
          running,
          (
            shape_at x.about x.map,
            subst (λ (h : Shape). IsMap h.maps x.map (shape_at x.about x.map)) (sym shape) (map_is x.about.shape x.map ready.inside.0),
            w.key_size,
            w.size,
            updates x.map (shape_at x.about x.map) key bytes flags r undone s
                (may s before share (subst (λ (m : ℕ). is_some (get (s.maps m) key) ≡ is_some (before key)) c.map
                (ap is_some (maps key w'.home) ∙ some_numbered number (before key)))),
          ),
        );
      }

  known_flags : nat_lt 2 flags ≡ false
  known_flags = let t = w.flags_known in grind (arith, nat_tests)

  pub busy_answers : 2 ^ 56 - 1 ≤ k.stamp / 256 → Ready x.about x.known x.map x.segment → AnswersUnderLock x.about x.known k (Update x.map key bytes flags Busy)
  busy_answers worn = answers Busy (λ z. cc) (sym c.map, worn) (λ s before share is. w.flags_known)

  pub exists_answers : flags ≡ 1 → (e : ℕ) → HasPair (seen_words x) key e → Ready x.about x.known x.map x.segment → AnswersUnderLock x.about
      x.known k (Update x.map key bytes flags Exists)
  exists_answers one e h = answers Exists (λ z. cc) tt (λ s before share is.
      second_true _ _ _ _ known_flags ((λ j. (eq-eqb flags 1 one j) && (is ∙ ap is_some (judge_leads e h before share)) j)))

  pub absent_answers : flags ≡ 2 → SegAbsent (seen_words x) key → Ready x.about x.known x.map x.segment → AnswersUnderLock x.about x.known k
      (Update x.map key bytes flags Absent)
  absent_answers two gone = answers Absent (λ z. cc) tt (λ s before share is.
      let none : is_some (get (s.maps x.map) key) ≡ false = is ∙ ap is_some (judge_absent gone before share) in
      third_true _ _ _ _ known_flags ((λ j. (flags == 1) && none j) ∙ and_false (flags == 1)) (λ j. (eq-eqb flags 2 two j) && not (none j)))

  pub lacking_answers : SawAllTaken x.about x.known x.map → flags ≢ 1 → (e : ℕ) → HasPair (seen_words x) key e → Ready x.about x.known x.map
      x.segment → AnswersUnderLock x.about x.known k (Update x.map key bytes flags NoMemory)
  lacking_answers saw other e h = answers NoMemory (λ z. cc) (sym c.map, saw) (λ s before share is.
      let there : is_some (get (s.maps x.map) key) ≡ true = is ∙ ap is_some (judge_leads e h before share) in
      four _ _ _ _ known_flags (λ j. ne_eqb flags 1 other j && is_some (get (s.maps x.map) key))
      ((λ j. (flags == 2) && not (there j)) ∙ and_false (flags == 2)) (λ j. not (there j) && (len (s.maps x.map) == (shape_at x.about x.map).max)))
