-- The unlock of the segment that was locked last, noted: it finds the number that the lock left.
use Rattle.std.proofs.Common.{◌≡◌, ℕ, ◌+◌, subst, sym}
use Rattle.hop_layout.specs.declared.about.About.{About}
use Rattle.hop_layout.specs.declared.place.Place.TheVariants.{Stamp}
use Rattle.hop_layout.specs.Layout.{mem, put_at}
use Rattle.hop_words.specs.declared.known.Known.{Known}
use Rattle.hop_words.specs.declared.known.Lock.{Lock}
use Rattle.hop_words.specs.Sights.{sight, sighted}
use Rattle.hop_words.specs.Private.Step.{Steps, Notes}
use Rattle.hop_words.specs.Locking.{lock_of, HasLastLock}
use Rattle.hop_words.specs.Listing.{lock_given}
use Rattle.hop_words.proofs.Locks.{holds}
use Rattle.hop_words.proofs.Stays.{next_as}
use Rattle.hop_words.proofs.Tallies.{noted_as}

module _ (a : About) (l : Known) (m s stamp : ℕ) (h : HasLastLock l m s) (e : stamp ≡ (lock_of l).stamp) (told said : Known → Type 0)
    (less : (x : Known) → told x → said (sighted x (lock_given (lock_of l))))
    (step : Steps a l (Stamp (lock_of l).map (lock_of l).segment) (λ _. (lock_of l).stamp) (λ ws n x. told x)) where
  abbrev k : Lock
  k = lock_of l

  found : Steps a l (Stamp (lock_of l).map (lock_of l).segment) (λ _. (lock_of l).stamp) (λ ws n x. (n ≡ (lock_of l).stamp + 1) × told x)
  found ws g sized r is inside fits =
      next_as a (put_at (mem a.shape ws) (Stamp k.map k.segment) k.stamp) g l.cpu told (λ x. (mem a.shape ws (Stamp k.map k.segment) ≡ k.stamp + 1) × told x)
      (λ x t. ((holds a l k h.0 (mem a.shape ws) g r is).locked, t)) (step ws g sized r is inside fits)

  noted : Notes a l (Stamp (lock_of l).map (lock_of l).segment) (λ _. (lock_of l).stamp) (λ ws n l'. said l')
  noted = noted_as a l (Stamp k.map k.segment) (λ _. k.stamp) (λ ws n x. (n ≡ k.stamp + 1) × told x) (λ ws n l'. said l')
      (λ ws n x fits t. subst (λ (i : ℕ). said (sighted x (sight (Stamp k.map k.segment) i k.stamp))) (sym t.0) (less x t.1))
      found

  pub gives_lock : Notes a l (Stamp m s) (λ _. stamp) (λ ws n l'. said l')
  gives_lock =
      subst (λ (n : ℕ). Notes a l (Stamp n s) (λ _. stamp) (λ ws i l'. said l')) h.1
      (subst (λ (t : ℕ). Notes a l (Stamp (lock_of l).map t) (λ _. stamp) (λ ws i l'. said l')) h.2
      (subst (λ (i : ℕ). Notes a l (Stamp (lock_of l).map (lock_of l).segment) (λ _. i) (λ ws n l'. said l')) (sym e) noted))
