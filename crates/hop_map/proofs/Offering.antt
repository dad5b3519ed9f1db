-- What is offered under the lock serves as a new element, and in the place of another.
use Rattle.std.proofs.Common.{◌≡◌, ◌≢◌, ℕ, zero, suc, Bool, true, false, ◌==◌, ◌≤◌, ◌⊎◌, inl, inr, List, arith, refl, sym, subst}
use Rattle.std.proofs.lemmas.Bool.{eqb-false}
use Rattle.hop_layout.proofs.Layouts.{one}
use Rattle.hop_layout.specs.declared.about.About.{About}
use Rattle.hop_words.specs.declared.known.Known.{Known}
use Rattle.bpf_shared.specs.declared.events.Event.{Event}
use Rattle.hop_words.specs.Ghost.{shape_at}
use Rattle.hop_words.specs.Kinds.{IsKeyAbsent, CountsUnderLock, AddsEvent}
use Rattle.hop_words.specs.Locking.{lock_of, SeesRoom, SeesLack}
use Rattle.hop_map.specs.LockedSegment.{Locked, Ready}
use Rattle.hop_map.specs.Private.UnderLock.{LockShows, HandFilled, OffersInsertion}
use Rattle.hop_map.specs.Private.Replacing.{OffersReplacement}
use Rattle.hop_map.specs.Private.Updates.{Wants, Offers}

module _ (a : About) (l : Known) (m s : ℕ) (key bytes : List ℕ) (flags element : ℕ) (b : Offers a l m s key bytes flags element) where
  filled : HandFilled a l m s key bytes element
  filled = record {
    in_hand = b.in_hand;
    map = b.map;
    number = b.number;
    inside = b.inside;
    home = b.wants.home;
    size = b.wants.size;
    are_bytes = b.wants.are_bytes;
    filled = b.valued.filled;
    value = b.valued.value;
    keyed = b.keyed;
    runs = b.wants.runs;
  }

  pub brings : flags ≢ 2 → OffersInsertion a l m s key bytes flags element
  brings new = record { filled = filled; flags_known = (let f = b.wants.flags_known in omega arith) }

  pub brings_over : flags ≢ 1 → OffersReplacement a l m s key bytes flags element
  brings_over over = record {
    filled = filled;
    flags_known = zero_or_two flags b.wants.flags_known over;
    limbo = b.wants.limbo;
    apart = b.apart;
  }
    where
      zero_or_two : (n : ℕ) → n ≤ 2 → n ≢ 1 → (n ≡ 0) ⊎ (n ≡ 2)
      zero_or_two zero few other = inl refl
      zero_or_two (suc zero) few other = absurd (other refl)
      zero_or_two (suc (suc zero)) few other = inr refl
      zero_or_two (suc (suc (suc n))) few other = absurd (omega arith)

-- the count may be seen
counts : (a : About) (l : Known) (m s : ℕ) (key bytes : List ℕ) (flags : ℕ) → Ready a l m s → LockShows a l m s → Wants a l m s key bytes
    flags → IsKeyAbsent a (lock_of l) key → flags ≢ 2
    → CountsUnderLock a l (lock_of l) key bytes flags
counts a l m s key bytes flags r c w absent new =
    let k = lock_of l in
    let w' : Wants a l k.map k.segment key bytes flags = subst (λ (t : ℕ). Wants a l k.map t key bytes flags) (sym c.segment)
    (subst (λ (n : ℕ). Wants a l n s key bytes flags) (sym c.map) w) in
    record {
      lock = r.held;
      nothing = c.nothing;
      home = w'.home;
      key_size = w'.key_size;
      size = w'.size;
      absent = absent;
      flags_known = (let f = w.flags_known in omega arith);
      runs = w.runs;
    }

-- the same by what is known of the words' view
pub counts_of : (x z : Locked) → x ≡ z → (key bytes : List ℕ) (flags : ℕ) → Ready x.about x.known x.map x.segment → LockShows z.about
    z.known z.map z.segment → Wants z.about z.known z.map z.segment key bytes flags → IsKeyAbsent z.about (lock_of z.known) key → flags ≢ 2
    → CountsUnderLock x.about x.known (lock_of x.known) key bytes flags
counts_of x z is key bytes flags r c w absent new = counts x.about x.known x.map x.segment key bytes flags r
    (subst (λ (y : Locked). LockShows y.about y.known y.map y.segment) (sym is) c)
    (subst (λ (y : Locked). Wants y.about y.known y.map y.segment key bytes flags) (sym is) w)
    (subst (λ (y : Locked). IsKeyAbsent y.about (lock_of y.known) key) (sym is) absent)
    new

-- an event that changes nothing leaves the lock as it was
told_ready : (a : About) (l : Known) (m s : ℕ) (e : Event) (l2 : Known) → Ready a l m s → AddsEvent a l e l2 → Ready a l2 m s
told_ready a l m s e l2 r t = subst (λ (q : Known). Ready a q m s) (sym t.after)
    (record { held = r.held; map = r.map; segment = r.segment; inside = r.inside; sized = r.sized; known_is = r.known_is })

module _ (a : About) (l : Known) (m s : ℕ) (r : Ready a l m s) (key bytes : List ℕ) (flags n : ℕ) (l2 : Known) where
  pub room_ready : SeesRoom a l key bytes flags n l2 → Ready a l2 m s
  room_ready t = go (n == (shape_at a (lock_of l).map).max) refl
    where
      go : (b : Bool) → (n == (shape_at a (lock_of l).map).max) ≡ b → Ready a l2 m s
      go true is = told_ready a l m s _ l2 r (t.0 (one n _ is))
      go false is = subst (λ (q : Known). Ready a q m s) (sym (t.1 (eqb-false n _ is)).0) r

  pub lack_ready : SeesLack a l key bytes flags n l2 → Ready a l2 m s
  lack_ready t = go (n == (shape_at a (lock_of l).map).max) refl
    where
      go : (b : Bool) → (n == (shape_at a (lock_of l).map).max) ≡ b → Ready a l2 m s
      go true is = told_ready a l m s _ l2 r (t.0 (one n _ is))
      go false is = told_ready a l m s _ l2 r (t.1 (eqb-false n _ is))
