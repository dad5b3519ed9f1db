-- What a CPU knows after a split, and what its port is.
use Rattle.std.proofs.Common.{◌≡◌, ℕ, ◌+◌, ◌^◌, ◌<◌, true, [], ◌∷◌, ap, sym, subst, ◌∙◌}
use Rattle.atomic_table.specs.Seated.{TableId}
use Rattle.bpf_shared.specs.History.{IsLegal, events_of}
use Rattle.bpf_shared.specs.Own.{in_run}
use Rattle.hop_layout.specs.declared.about.About.{About}
use Rattle.hop_words.specs.declared.known.Known.{Known}
use Rattle.hop_words.specs.Inside.{Shown}
use Rattle.hop_words.specs.Kinds.{unlocking, run_count}
use Rattle.hop_words.specs.Sights.{sighted, split_made, lock_taken}
use Rattle.hop_map.specs.declared.growth.Growth.{Growth}
use Rattle.hop_map.specs.declared.growth.Growth.TheVariants.{Grown, AtDepth, Worn}
use Rattle.hop_map.specs.LockedSegment.{Locked}
use Rattle.hop_map.specs.Port.{Port, IsPortOf}
use Rattle.hop_map.specs.Splitting.{OwnsAt, NotesOnly, SplitEnds}
use Rattle.hop_map.specs.Private.Locks.{Taken}
use Rattle.hop_map.specs.Private.Splitting.{EndsUnderLock}
use Rattle.hop_map.proofs.Ports.{moved}

-- ---- a split that begins with the lock
module _ (a : About) (l : Known) (m home s n : ℕ) (l2 : Known) (t : Taken a l m home s n l2) (idle : l.locks ≡ []) where
  owns : OwnsAt a m home s n
  owns = record { inside = t.inside; unlocked = t.even; here = t.here }

  unlocked : NotesOnly l (lock_taken m s n ∷ l.tally) (unlocking l2)
  unlocked = ap unlocking t.locked.after ∙ (λ j. record l { readings = []; tally = lock_taken m s n ∷ l.tally; locks = sym idle j })

  ends_for : (x : Locked) (about : x.about ≡ a) (known : x.known ≡ l2) (map : x.map ≡ m) (segment : x.segment ≡ s) (g : Growth) (l' : Known)
      → EndsUnderLock (record x { about = a; known = l2; map = m; segment = s }) n g l' → SplitEnds a l m home g l'
  ends_for x about known map segment Grown l' (less, version, is) = (s, n, owns, less, version, is ∙ ap (λ (k : Known). sighted k (split_made m s n)) unlocked)
  ends_for x about known map segment AtDepth l' (same, is) = (s, n, owns, same, is ∙ unlocked)
  ends_for x about known map segment Worn l' (less, version, is) = (s, n, owns, less, version, is ∙ unlocked)

  pub ends : (x : Locked) → x.about ≡ a → x.known ≡ l2 → x.map ≡ m → x.segment ≡ s → (g : Growth) (l' : Known) → EndsUnderLock x n g l' →
      SplitEnds a l m home g l'
  ends x about known map segment g l' e = ends_for x about known map segment g l'
      (subst (λ (z : Locked). EndsUnderLock z n g l') (λ j. record { table = x.table; about = about j; known = known j; map = map j; segment = segment j }) e)

-- ---- a port
only : (a : About) (l : Known) (m home : ℕ) (g : Growth) (l' : Known) → SplitEnds a l m home g l' → NotesOnly l l'.tally l'
only a l m home Grown l' (s, n, owns, less, version, is) = is ∙ (λ j. record l { readings = []; tally = sym (ap (λ (k : Known). k.tally) is) j })
only a l m home AtDepth l' (s, n, owns, same, is) = is ∙ (λ j. record l { readings = []; tally = sym (ap (λ (k : Known). k.tally) is) j })
only a l m home Worn l' (s, n, owns, less, version, is) = is ∙ (λ j. record l { readings = []; tally = sym (ap (λ (k : Known). k.tally) is) j })

pub split_fits : (t : Shown) (p : Port) (z : TableId) (l : Known) (m home : ℕ) (g : Growth) → IsPortOf t p → z ≡ t.id → SplitEnds t.about
    p.known m home g l → IsPortOf t (record { table = z; known = l; arenas = p.arenas; batches = p.batches; spilled = p.spilled })
split_fits t p z l m home g h table e =
    let is = only t.about p.known m home g l e in
    moved t p z l h (table ∙ sym h.table) (ap (λ (k : Known). k.cpu) is) (ap (λ (k : Known). k.limbo) is)
    (subst (λ (k : Known). in_run (events_of k.cpu k.seen) ≡ true → run_count t.about k + 1 < 2 ^ 64) (sym is) h.room)
    (subst (λ (k : Known). IsLegal t.about.shape k.seen) (sym is) h.legal)

pub split_runs : (a : About) (l : Known) (m home : ℕ) (g : Growth) (l' : Known) → SplitEnds a l m home g l' → in_run
    (events_of l'.cpu l'.seen) ≡ in_run (events_of l.cpu l.seen)
split_runs a l m home g l' e = ap (λ (k : Known). in_run (events_of k.cpu k.seen)) (only a l m home g l' e)
