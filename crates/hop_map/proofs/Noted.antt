-- Where the lock's sight is among those of a whole call.
use Rattle.std.proofs.Common.{◌≡◌, ℕ, ◌≤◌, List, [], ◌∷◌, ◌++◌, Option, Some, None, IfSome, append_assoc, refl, ap, sym, ◌∙◌, arith}
use Rattle.bpf_shared.specs.declared.events.MapAnswer.{MapAnswer}
use Rattle.bpf_shared.specs.declared.events.MapAnswer.TheVariants.{Done}
use Rattle.bpf_shared.specs.declared.events.Event.TheVariants.{Update, Delete}
use Rattle.hop_layout.specs.declared.about.About.{About}
use Rattle.hop_words.specs.declared.known.Known.{Known}
use Rattle.hop_words.specs.declared.known.Sight.{Sight}
use Rattle.hop_words.specs.Sights.{LeavesLocks, lock_taken}
use Rattle.hop_words.specs.Ghost.{Each}
use Rattle.hop_words.proofs.Sighted.{each-append}
use Rattle.hop_map.specs.Finding.{OwnsKey}
use Rattle.hop_map.specs.Noting.{BusyFirst, IsUnderLock, CallNotes, LockedLast}

-- the lock, with these sights before and after
under_lock : (a : About) (m : ℕ) (key : List ℕ) (s : ℕ) (answer : MapAnswer) (n : ℕ) (later sooner : List Sight) → OwnsKey a m key s n →
    Each LeavesLocks later → Each LeavesLocks sooner → BusyFirst n answer → IsUnderLock a m key answer (later ++ (lock_taken m s n ∷ sooner))
under_lock a m key s answer n later sooner own last first order = record
    { segment = s; own = own; stamp = n; sooner = sooner; later = later; all = refl; only = (last, first); order = order }

more_before : (later sooner more tally : List Sight) (k : Sight) → later ++ (k ∷ (sooner ++ (more ++ tally))) ≡ (later ++ (k ∷ (sooner ++ more))) ++ tally
more_before later sooner more tally k = ap (λ (z : List Sight). later ++ (k ∷ z)) (sym (append_assoc sooner more tally)) ∙ sym
    (append_assoc later (k ∷ (sooner ++ more)) tally)

module _ (a : About) (l : Known) (m : ℕ) (key : List ℕ) (answer : MapAnswer) (l' : Known) (s n : ℕ) (own : OwnsKey a m key s n) (later : List Sight)
    (is : l'.tally ≡ later ++ (lock_taken m s n ∷ l.tally)) (last : Each LeavesLocks later) (order : BusyFirst n answer) where
  is_front : l'.tally ≡ (later ++ (lock_taken m s n ∷ [])) ++ l.tally
  is_front = is ∙ more_before later [] [] l.tally (lock_taken m s n)

  -- a call that noted the lock first
  pub delete_notes : CallNotes a (Delete m key answer) l l'
  delete_notes = (later ++ (lock_taken m s n ∷ []), is_front, under_lock a m key s answer n later [] own last tt order)

  pub update_notes : (bytes : List ℕ) (flags : ℕ) → flags ≤ 2 → CallNotes a (Update m key bytes flags answer) l l'
  update_notes bytes flags known = (
    later ++ (lock_taken m s n ∷ []),
    is_front,
    ((λ few. under_lock a m key s answer n later [] own last tt order), (λ many. absurd (omega arith))),
  )

-- an update that noted something before
pub notes_after : (a : About) (l l1 : Known) (m : ℕ) (key bytes : List ℕ) (flags : ℕ) (answer : MapAnswer) (l' : Known) (more : List Sight)
    → flags ≤ 2 → l1.tally ≡ more ++ l.tally → Each LeavesLocks more
    → CallNotes a (Update m key bytes flags answer) l1 l' → CallNotes a (Update m key bytes flags answer) l l'
notes_after a l l1 m key bytes flags answer l' more few before leave (sights, is, may) =
    let p : IsUnderLock a m key answer sights = may.0 few in
    let k = lock_taken m p.segment p.stamp in (
      p.later ++ (k ∷ (p.sooner ++ more)),
      is
          ∙ (ap (λ (z : List Sight). z ++ l1.tally) p.all
          ∙ (append_assoc p.later (k ∷ p.sooner) l1.tally
          ∙ (ap (λ (z : List Sight). p.later ++ (k ∷ (p.sooner ++ z))) before ∙ more_before p.later p.sooner more l.tally k))),
      (
        (λ _. under_lock a m key p.segment answer p.stamp p.later (p.sooner ++ more) p.own p.only.0
            (each-append LeavesLocks p.sooner more p.only.1 leave) p.order),
        (λ many. absurd (omega arith)),
      ),
    )

-- the lock of the segment to whose list a new key went is the last that was taken
pub spilled_last : (m s n : ℕ) (l l' : Known) (o : Option ℕ) → IfSome o (λ t. t ≡ s) → l'.tally ≡ lock_taken m s n ∷ l.tally → IfSome o
    (λ t. (Done ≡ Done) × LockedLast m t l l')
spilled_last m s n l l' None here is = tt
spilled_last m s n l l' (Some t) here is = (refl, (lock_taken m s n ∷ [], is, (n, [], [], ap (λ (i : ℕ). lock_taken m i n ∷ []) (sym here), tt)))

-- also among what was noted since something before
pub spilled_after : (m : ℕ) (l l1 l' : Known) (r : MapAnswer) (more : List Sight) (o : Option ℕ) → l1.tally ≡ more ++ l.tally → IfSome o
    (λ t. (r ≡ Done) × LockedLast m t l1 l') → IfSome o (λ t. (r ≡ Done) × LockedLast m t l l')
spilled_after m l l1 l' r more None before p = tt
spilled_after m l l1 l' r more (Some t) before p =
    let q = p.1 in
    let k = q.2 in (
      p.0,
      (
        q.0 ++ more,
        q.1 ∙ (ap (λ (z : List Sight). q.0 ++ z) before ∙ sym (append_assoc q.0 more l.tally)),
        (k.0, k.1, k.2 ++ more, ap (λ (z : List Sight). z ++ more) k.3 ∙ append_assoc k.1 (lock_taken m t k.0 ∷ k.2) more, k.4),
      ),
    )
