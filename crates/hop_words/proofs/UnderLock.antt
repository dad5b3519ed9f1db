-- Words that a segment's lock guards: what their holder reads there, and that it may write them.
use Rattle.std.proofs.Common.{◌≡◌, ℕ, ◌%◌, true, List, [], ◌∷◌, subst, sym, inr}
use Rattle.hop_layout.specs.declared.about.About.{About}
use Rattle.hop_words.specs.declared.known.Known.{Known}
use Rattle.hop_words.specs.declared.known.Lock.{Lock}
use Rattle.hop_layout.specs.declared.place.Place.{Place}
use Rattle.hop_layout.specs.declared.place.Place.TheVariants.{RunCount, KeyCount, FreeBits, Stamp, Head, Hop, Slot, Link, KeyWord, ValueWord, FixedWord}
use Rattle.hop_layout.specs.Layout.{mem, is_place}
use Rattle.hop_words.specs.Private.Step.{Steps, IsQuiet, IsBesideStamp}
use Rattle.hop_words.specs.Kinds.{writing}
use Rattle.hop_words.specs.Locking.{lock_of}
use Rattle.hop_words.specs.Guarded.{IsGuarded, MayWrite, IsBeside, IsGuardedBeside, IsWordBeside, IsStampBeside}
use Rattle.hop_words.proofs.Counts.{read_head, read_hop, read_slot}
use Rattle.hop_words.proofs.Mine.{read_mine, read_my_key}
use Rattle.hop_words.proofs.Stays.{stay}
use Rattle.hop_words.proofs.Writes.{write_head, write_hop, write_slot, write_link, write_own}
use Rattle.hop_words.specs.Ghost.{child}
use Rattle.hop_words.proofs.Locks.{holds}

module _ (a : About) (l : Known) where
  abbrev Reads : Place → Type 0
  Reads p = Steps a l p (λ n. n) (λ ws n l'. (n ≡ mem a.shape (lock_of l).copy p) × (l' ≡ l))

  abbrev Writes : ℕ → Place → Type 0
  Writes n p = is_place a.shape p ≡ true → Steps a l p (λ _. n) (λ ws found l'. l' ≡ writing a l (lock_of l) p n)

  at_lock : (P : ℕ → ℕ → Type 0) (m s : ℕ) → (lock_of l).map ≡ m → (lock_of l).segment ≡ s → P (lock_of l).map (lock_of l).segment → P m s
  at_lock P m s i j p = subst (P m) j (subst (λ (n : ℕ). P n (lock_of l).segment) i p)

module _ (a : About) (l : Known) {rest : List Lock} (held : l.locks ≡ lock_of l ∷ rest) where
  reads : (p : Place) → IsGuarded a l p → Reads a l p
  reads (Head m s) g = at_lock a l (λ n t. Reads a l (Head n t)) m s g.0 g.1 (read_head a l (lock_of l) held)
  reads (Hop m s b) g = at_lock a l (λ n t. Reads a l (Hop n t b)) m s g.0 g.1 (read_hop a l (lock_of l) held b)
  reads (Slot m s b) g = at_lock a l (λ n t. Reads a l (Slot n t b)) m s g.0 g.1 (read_slot a l (lock_of l) held b)
  reads (Link m e) g = subst (λ (n : ℕ). Reads a l (Link n e)) g.0 (read_mine a l (lock_of l) held e g.1)
  reads (KeyWord m e k) g = subst (λ (n : ℕ). Reads a l (KeyWord n e k)) g.0 (read_my_key a l (lock_of l) held e g.1 k)
  reads (RunCount c) g = absurd g
  reads (KeyCount m) g = absurd g
  reads (FreeBits m i) g = absurd g
  reads (Stamp m s) g = absurd g
  reads (ValueWord m e k) g = absurd g
  reads (FixedWord b k) g = absurd g

  -- any word may be read; of one that is guarded the number is that of the copy
  pub read_guarded : (p : Place) → Steps a l p (λ n. n) (λ ws n l'. (IsGuarded a l p → n ≡ mem a.shape (lock_of l).copy p) × (l' ≡ l))
  read_guarded p ws g sized r is inside fits = stay a (mem a.shape ws) g l.cpu p _ r ((λ guarded. (reads p guarded ws g sized r is inside fits).says.0), is)

module _ (a : About) (l : Known) (held : l.locks ≡ lock_of l ∷ []) where
  pub write_guarded : (p : Place) (n : ℕ) → MayWrite a l p → is_place a.shape p ≡ true → Steps a l p (λ _. n) (λ ws found l'. l' ≡ writing a l (lock_of l) p n)
  write_guarded (Head m s) n g = at_lock a l (λ i t. Writes a l n (Head i t)) m s g.0 g.1 (write_head a l (lock_of l) n held)
  write_guarded (Hop m s b) n g = at_lock a l (λ i t. Writes a l n (Hop i t b)) m s g.0 g.1 (write_hop a l (lock_of l) b n held)
  write_guarded (Slot m s b) n g = at_lock a l (λ i t. Writes a l n (Slot i t b)) m s g.0 g.1 (write_slot a l (lock_of l) b n held)
  write_guarded (Link m e) n g = subst (λ (i : ℕ). Writes a l n (Link i e)) g.0 (λ there. write_link a l (lock_of l) e n held there g.1)
  write_guarded p n g = absurd g

  -- ---- the segment that is born when the locked one splits
  at_beside : (P : ℕ → ℕ → Type 0) (m s : ℕ) → IsBeside l m s → P (lock_of l).map (child (lock_of l)) → P m s
  at_beside P m s b p = subst (P m) b.1 (subst (λ (n : ℕ). P n (child (lock_of l))) b.0 p)

  pub read_beside : (p : Place) → IsGuardedBeside l p → Reads a l p
  read_beside (Stamp m s) b = at_beside (λ n t. Reads a l (Stamp n t)) m s b
      (λ ws g sized r is inside fits. stay a (mem a.shape ws) g l.cpu (Stamp (lock_of l).map (child (lock_of l))) _ r
      ((holds a l (lock_of l) held (mem a.shape ws) g r is).beside_stamp, is))
  read_beside (Head m s) b = at_beside (λ n t. Reads a l (Head n t)) m s b
      (λ ws g sized r is inside fits. stay a (mem a.shape ws) g l.cpu (Head (lock_of l).map (child (lock_of l))) _ r
      ((holds a l (lock_of l) held (mem a.shape ws) g r is).beside.head, is))
  read_beside (Hop m s j) b = at_beside (λ n t. Reads a l (Hop n t j)) m s b
      (λ ws g sized r is inside fits. stay a (mem a.shape ws) g l.cpu (Hop (lock_of l).map (child (lock_of l)) j) _ r
      ((holds a l (lock_of l) held (mem a.shape ws) g r is).beside.hop j, is))
  read_beside (Slot m s j) b = at_beside (λ n t. Reads a l (Slot n t j)) m s b
      (λ ws g sized r is inside fits. stay a (mem a.shape ws) g l.cpu (Slot (lock_of l).map (child (lock_of l)) j) _ r
      ((holds a l (lock_of l) held (mem a.shape ws) g r is).beside.slot j, is))
  read_beside (Link m e) b = absurd b
  read_beside (KeyWord m e k) b = absurd b
  read_beside (RunCount c) b = absurd b
  read_beside (KeyCount m) b = absurd b
  read_beside (FreeBits m i) b = absurd b
  read_beside (ValueWord m e k) b = absurd b
  read_beside (FixedWord c k) b = absurd b

  pub write_beside : (p : Place) (n : ℕ) → IsWordBeside l p → is_place a.shape p ≡ true → Steps a l p (λ _. n) (λ ws found l'. l' ≡ writing a l (lock_of l) p n)
  write_beside (Head m s) n b = write_own a l (lock_of l) (Head m s) n (sym b.0, inr (sym b.1)) held
  write_beside (Hop m s j) n b = write_own a l (lock_of l) (Hop m s j) n (sym b.0, inr (sym b.1)) held
  write_beside (Slot m s j) n b = write_own a l (lock_of l) (Slot m s j) n (sym b.0, inr (sym b.1)) held
  write_beside p n b = absurd b

  pub write_stamp_beside : (p : Place) (n : ℕ) → IsStampBeside l p → is_place a.shape p ≡ true → Steps a l p (λ _. n)
      (λ ws found l'. l' ≡ writing a l (lock_of l) p n)
  write_stamp_beside (Stamp m s) n b = write_own a l (lock_of l) (Stamp m s) n (sym b.0, sym b.1) held
  write_stamp_beside p n b = absurd b

-- they are no stamps, and no words of free bits
pub may_quiet : (a : About) (l : Known) (p : Place) → MayWrite a l p → IsQuiet p
may_quiet a l (Head m s) may = tt
may_quiet a l (Hop m s b) may = tt
may_quiet a l (Slot m s b) may = tt
may_quiet a l (Link m e) may = tt
may_quiet a l p may = absurd may

pub beside_quiet : (l : Known) (p : Place) → IsWordBeside l p → IsQuiet p
beside_quiet l (Head m s) b = tt
beside_quiet l (Hop m s j) b = tt
beside_quiet l (Slot m s j) b = tt
beside_quiet l p b = absurd b

pub beside_stamp_is : (l : Known) (p : Place) (n : ℕ) → IsStampBeside l p → n % 2 ≡ 0 → IsBesideStamp l p n
beside_stamp_is l (Stamp m s) n b even = (b.0, b.1, even)
beside_stamp_is l p n b even = absurd b
