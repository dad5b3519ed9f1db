-- Making the words of a store, a word at a time.
use Rattle.std.proofs.Common.{replicate, ◌≡◌, ◌≢◌, ⊎_elim, ℕ, zero, suc, ◌+◌, ◌*◌, ◌-◌, ◌/◌, ◌%◌, ◌^◌, ◌<◌, ◌≤◌, Bool, true, false, ◌&&◌}
use Rattle.std.proofs.Common.{◌||◌, ◌==◌, if◌then◌else◌, nat_lt, List, length, slice_index, refl, ap, sym, subst, ◌∙◌, arith, eq-eqb}
use Rattle.std.proofs.Common.{ne_eqb}
use Rattle.std.proofs.lemmas.Bool.Decides.{nat_tests}
use native.Mathlib.Decide.{dec_lt}
use mathlib.Core.Logic.{dite}
use Rattle.bpf_shared.specs.Shape.{IsShape, contents_of}
use Rattle.hop_layout.specs.declared.place.Place.{Place}
use Rattle.hop_layout.specs.declared.place.Place.TheVariants.{RunCount, KeyCount, FreeBits, Stamp, Head, Hop, Slot, Link, KeyWord, ValueWord, FixedWord}
use Rattle.hop_layout.specs.declared.about.About.{About}
use Rattle.hop_layout.specs.Layout.{at, is_place, mem, put_at, free_words, segments, first_depth, array_words}
use Rattle.hop_layout.specs.Words.{AreBytes}
use Rattle.hop_words.specs.Ghost.{shape_at}
use Rattle.hop_words.specs.Private.Made.{IsPartly, IsFilled, first_word, AreNewWords}
use Rattle.std.specs.Int.{bit_at}
use Rattle.std.proofs.lemmas.Nat.Bits.{bit_at_ones}
use Rattle.std.proofs.lemmas.Bool.{lt-ltb, and_parts, cases_eq}
use Rattle.hop_layout.proofs.Depths.{first_most}

no : (m n : ℕ) → n ≤ m → nat_lt m n ≡ false
no m n l = grind (arith, nat_tests)

-- one more, for another number than the next
lt_on : (d c : ℕ) → d ≢ c → nat_lt d (c + 1) ≡ nat_lt d c
lt_on d c ne = dite (dec_lt d c)
    (λ (l : d < c). lt-ltb d (c + 1) (omega arith) ∙ sym (lt-ltb d c l))
    (λ nl. no d (c + 1) (grind arith) ∙ sym (no d c (grind arith)))

lt_now : (d c : ℕ) → d ≡ c → nat_lt d (c + 1) ≡ true
lt_now d c e = lt-ltb d (c + 1) (omega arith)

pub runs_on : (a : About) (w : Place → ℕ) (c m i s : ℕ) → IsPartly a w c m i s → IsPartly a (put_at w (RunCount c) a.count) (c + 1) m i s
runs_on a w c m i s p (RunCount d) there = ⊎_elim
    (λ (e : d ≡ c). rw (eq-eqb d c e, lt_now d c e) refl)
    (λ (ne : d ≢ c). rw (ne_eqb d c ne, lt_on d c ne) (p (RunCount d) there))
    (cases_eq d c)
runs_on a w c m i s p (KeyCount n) there = p (KeyCount n) there
runs_on a w c m i s p (FreeBits n j) there = p (FreeBits n j) there
runs_on a w c m i s p (Stamp n t) there = p (Stamp n t) there
runs_on a w c m i s p (Head n t) there = p (Head n t) there
runs_on a w c m i s p (Hop n t b) there = p (Hop n t b) there
runs_on a w c m i s p (Slot n t b) there = p (Slot n t b) there
runs_on a w c m i s p (Link n e) there = p (Link n e) there
runs_on a w c m i s p (KeyWord n e k) there = p (KeyWord n e k) there
runs_on a w c m i s p (ValueWord n e k) there = p (ValueWord n e k) there
runs_on a w c m i s p (FixedWord b k) there = p (FixedWord b k) there

pub bits_on : (a : About) (w : Place → ℕ) (c m i s : ℕ) → IsPartly a w c m i s → IsPartly a (put_at w (FreeBits m i) (2 ^ 64 - 1)) c m (i + 1) s
bits_on a w c m i s p (RunCount d) there = p (RunCount d) there
bits_on a w c m i s p (KeyCount n) there = p (KeyCount n) there
bits_on a w c m i s p (FreeBits n j) there = ⊎_elim
    (λ (e : n ≡ m). ⊎_elim
    (λ (f : j ≡ i). rw (eq-eqb n m e, eq-eqb j i f, no n m (omega arith), lt_now j i f) refl)
    (λ (nf : j ≢ i). rw (eq-eqb n m e, ne_eqb j i nf, no n m (omega arith), lt_on j i nf)
    (let q = p (FreeBits n j) there in
    let z : (nat_lt n m || ((n == m) && nat_lt j i)) ≡ nat_lt j i = rw (eq-eqb n m e, no n m (omega arith)) refl in subst
    (λ (b : Bool). w (FreeBits n j) ≡ (if b then 2 ^ 64 - 1 else 0)) z q))
    (cases_eq j i))
    (λ (ne : n ≢ m). rw (ne_eqb n m ne)
    (let q = p (FreeBits n j) there in let z : (nat_lt n m || ((n == m) && nat_lt j i)) ≡ (nat_lt n m || false) = rw (ne_eqb n m ne) refl in
    subst (λ (b : Bool). w (FreeBits n j) ≡ (if b then 2 ^ 64 - 1 else 0)) z q))
    (cases_eq n m)
bits_on a w c m i s p (Stamp n t) there = p (Stamp n t) there
bits_on a w c m i s p (Head n t) there = p (Head n t) there
bits_on a w c m i s p (Hop n t b) there = p (Hop n t b) there
bits_on a w c m i s p (Slot n t b) there = p (Slot n t b) there
bits_on a w c m i s p (Link n e) there = p (Link n e) there
bits_on a w c m i s p (KeyWord n e k) there = p (KeyWord n e k) there
bits_on a w c m i s p (ValueWord n e k) there = p (ValueWord n e k) there
bits_on a w c m i s p (FixedWord b k) there = p (FixedWord b k) there

abbrev fresh_stamp : About → ℕ → ℕ
fresh_stamp a m = a.version * 256 + 2 * first_depth (shape_at a m)

pub stamps_on : (a : About) (w : Place → ℕ) (c m i s : ℕ) → IsPartly a w c m i s → IsPartly a
    (put_at w (Stamp m s) (a.version * 256 + 2 * first_depth (shape_at a m))) c m i (s + 1)
stamps_on a w c m i s p (RunCount d) there = p (RunCount d) there
stamps_on a w c m i s p (KeyCount n) there = p (KeyCount n) there
stamps_on a w c m i s p (FreeBits n j) there = p (FreeBits n j) there
stamps_on a w c m i s p (Stamp n t) there = ⊎_elim
    (λ (e : n ≡ m). ⊎_elim
    (λ (f : t ≡ s). rw (eq-eqb n m e, eq-eqb t s f, no n m (omega arith), lt_now t s f) (ap (fresh_stamp a) (sym e)))
    (λ (nf : t ≢ s). rw (eq-eqb n m e, ne_eqb t s nf, no n m (omega arith), lt_on t s nf)
    (let q = p (Stamp n t) there in
    let z : (nat_lt n m || ((n == m) && nat_lt t s)) ≡ nat_lt t s = rw (eq-eqb n m e, no n m (omega arith)) refl in subst
    (λ (b : Bool). w (Stamp n t) ≡ (if b then fresh_stamp a n else 0)) z q))
    (cases_eq t s))
    (λ (ne : n ≢ m). rw (ne_eqb n m ne)
    (let q = p (Stamp n t) there in let z : (nat_lt n m || ((n == m) && nat_lt t s)) ≡ (nat_lt n m || false) = rw (ne_eqb n m ne) refl in
    subst (λ (b : Bool). w (Stamp n t) ≡ (if b then fresh_stamp a n else 0)) z q))
    (cases_eq n m)
stamps_on a w c m i s p (Head n t) there = p (Head n t) there
stamps_on a w c m i s p (Hop n t b) there = p (Hop n t b) there
stamps_on a w c m i s p (Slot n t b) there = p (Slot n t b) there
stamps_on a w c m i s p (Link n e) there = p (Link n e) there
stamps_on a w c m i s p (KeyWord n e k) there = p (KeyWord n e k) there
stamps_on a w c m i s p (ValueWord n e k) there = p (ValueWord n e k) there
stamps_on a w c m i s p (FixedWord b k) there = p (FixedWord b k) there

-- the parts of a place
inner : (x y z : Bool) → (x && (y && z)) ≡ true → y ≡ true
inner x y z e = (and_parts y z (and_parts x (y && z) e).1).0

less : (m n : ℕ) → nat_lt m n ≡ true → m < n
less m n e = grind (arith, nat_tests)

-- a map whose words are all as made comes before the next
whole_map : (n m j k : ℕ) → (n ≡ m → j < k) → (nat_lt n m || ((n == m) && nat_lt j k)) ≡ (nat_lt n (m + 1) || ((n == (m + 1)) && nat_lt j 0))
whole_map n m j k inside = ⊎_elim
    (λ (e : n ≡ m). rw (eq-eqb n m e, lt-ltb j k (inside e), lt-ltb n (m + 1) (omega arith), no n m (omega arith)) refl)
    (λ (ne : n ≢ m). rw (ne_eqb n m ne, no j 0 (omega arith), lt_on n m ne) (go (n == (m + 1)) (nat_lt n m)))
    (cases_eq n m)
  where
    go : (x y : Bool) → (y || false) ≡ (y || (x && false))
    go true true = refl
    go true false = refl
    go false true = refl
    go false false = refl

pub map_on : (a : About) (w : Place → ℕ) (c m : ℕ) → IsPartly a w c m (free_words (shape_at a m)) (segments (shape_at a m)) → IsPartly a w c (m + 1) 0 0
map_on a w c m p (RunCount d) there = p (RunCount d) there
map_on a w c m p (KeyCount n) there = p (KeyCount n) there
map_on a w c m p (FreeBits n j) there =
    let few = less j (free_words (shape_at a n)) (inner (nat_lt n (length a.shape.maps)) (nat_lt j (free_words (shape_at a n))) true there) in
    subst (λ (b : Bool). w (FreeBits n j) ≡ (if b then 2 ^ 64 - 1 else 0))
    (whole_map n m j (free_words (shape_at a m)) (λ e. subst (λ (k : ℕ). j < free_words (shape_at a k)) e few)) (p (FreeBits n j) there)
map_on a w c m p (Stamp n t) there =
    let few = less t (segments (shape_at a n)) (inner (nat_lt n (length a.shape.maps)) (nat_lt t (segments (shape_at a n))) true there) in
    subst (λ (b : Bool). w (Stamp n t) ≡ (if b then fresh_stamp a n else 0))
    (whole_map n m t (segments (shape_at a m)) (λ e. subst (λ (k : ℕ). t < segments (shape_at a k)) e few)) (p (Stamp n t) there)
map_on a w c m p (Head n t) there = p (Head n t) there
map_on a w c m p (Hop n t b) there = p (Hop n t b) there
map_on a w c m p (Slot n t b) there = p (Slot n t b) there
map_on a w c m p (Link n e) there = p (Link n e) there
map_on a w c m p (KeyWord n e k) there = p (KeyWord n e k) there
map_on a w c m p (ValueWord n e k) there = p (ValueWord n e k) there
map_on a w c m p (FixedWord b k) there = p (FixedWord b k) there

-- words of zeros: nothing is made yet
pub none_made : (a : About) (w : Place → ℕ) → ((p : Place) → w p ≡ 0) → IsPartly a w 0 0 0 0
none_made a w z (RunCount d) there = rw (no d 0 (omega arith)) (z (RunCount d))
none_made a w z (KeyCount n) there = z (KeyCount n)
none_made a w z (FreeBits n j) there = rw (no n 0 (omega arith), no j 0 (omega arith)) (go (n == 0) (z (FreeBits n j)))
  where
    go : (b : Bool) → w (FreeBits n j) ≡ 0 → w (FreeBits n j) ≡ (if false || (b && false) then 2 ^ 64 - 1 else 0)
    go true e = e
    go false e = e
none_made a w z (Stamp n t) there = rw (no n 0 (omega arith), no t 0 (omega arith)) (go (n == 0) (z (Stamp n t)))
  where
    go : (b : Bool) → w (Stamp n t) ≡ 0 → w (Stamp n t) ≡ (if false || (b && false) then fresh_stamp a n else 0)
    go true e = e
    go false e = e
none_made a w z (Head n t) there = z (Head n t)
none_made a w z (Hop n t b) there = z (Hop n t b)
none_made a w z (Slot n t b) there = z (Slot n t b)
none_made a w z (Link n e) there = z (Link n e)
none_made a w z (KeyWord n e k) there = z (KeyWord n e k)
none_made a w z (ValueWord n e k) there = z (ValueWord n e k)
none_made a w z (FixedWord b k) there = z (FixedWord b k)

all_bits : (j : ℕ) → j < 64 → bit_at (2 ^ 64 - 1) j ≡ 1
all_bits j few = bit_at_ones 64 j few

-- when all maps are made, arrays are next
pub maps_made : (a : About) (w : Place → ℕ) → IsPartly a w a.shape.cpus (length a.shape.maps) 0 0 → IsFilled a w 0 0
maps_made a w p (RunCount c) there =
    let few = less c a.shape.cpus (and_parts (nat_lt c a.shape.cpus) true there).0 in
    p (RunCount c) there ∙ rw (lt-ltb c a.shape.cpus few) refl
maps_made a w p (KeyCount n) there = p (KeyCount n) there
maps_made a w p (FreeBits n j) there =
    let few = less n (length a.shape.maps) (and_parts (nat_lt n (length a.shape.maps)) (nat_lt j (free_words (shape_at a n)) && true) there).0 in
    p (FreeBits n j) there ∙ rw (lt-ltb n (length a.shape.maps) few) refl
maps_made a w p (Stamp n t) there =
    let few = less n (length a.shape.maps) (and_parts (nat_lt n (length a.shape.maps)) (nat_lt t (segments (shape_at a n)) && true) there).0 in
    p (Stamp n t) there ∙ rw (lt-ltb n (length a.shape.maps) few) refl
maps_made a w p (Head n t) there = p (Head n t) there
maps_made a w p (Hop n t b) there = p (Hop n t b) there
maps_made a w p (Slot n t b) there = p (Slot n t b) there
maps_made a w p (Link n e) there = p (Link n e) there
maps_made a w p (KeyWord n e k) there = p (KeyWord n e k) there
maps_made a w p (ValueWord n e k) there = p (ValueWord n e k) there
maps_made a w p (FixedWord b k) there = p (FixedWord b k) there ∙ rw (no b 0 (omega arith), no k 0 (omega arith)) (go (b == 0))
  where
    go : (x : Bool) → 0 ≡ (if false || (x && false) then first_word a b k else 0)
    go true = refl
    go false = refl

-- one word of an array more
pub fixed_on : (a : About) (w : Place → ℕ) (b n : ℕ) → IsFilled a w b n → IsFilled a (put_at w (FixedWord b n) (first_word a b n)) b (n + 1)
fixed_on a w b n p (FixedWord c k) there = ⊎_elim
    (λ (e : c ≡ b). ⊎_elim
    (λ (f : k ≡ n). rw (eq-eqb c b e, eq-eqb k n f, no c b (omega arith), lt_now k n f) (λ t. first_word a (sym e t) (sym f t)))
    (λ (nf : k ≢ n). rw (eq-eqb c b e, ne_eqb k n nf, no c b (omega arith), lt_on k n nf)
    (let q = p (FixedWord c k) there in
    let z : (nat_lt c b || ((c == b) && nat_lt k n)) ≡ nat_lt k n = rw (eq-eqb c b e, no c b (omega arith)) refl in subst
    (λ (x : Bool). w (FixedWord c k) ≡ (if x then first_word a c k else 0)) z q))
    (cases_eq k n))
    (λ (ne : c ≢ b). rw (ne_eqb c b ne)
    (let q = p (FixedWord c k) there in
    let z : (nat_lt c b || ((c == b) && nat_lt k n)) ≡ (nat_lt c b || false) = rw (ne_eqb c b ne) refl in subst
    (λ (x : Bool). w (FixedWord c k) ≡ (if x then first_word a c k else 0)) z q))
    (cases_eq c b)
fixed_on a w b n p (RunCount d) there = p (RunCount d) there
fixed_on a w b n p (KeyCount m) there = p (KeyCount m) there
fixed_on a w b n p (FreeBits m j) there = p (FreeBits m j) there
fixed_on a w b n p (Stamp m t) there = p (Stamp m t) there
fixed_on a w b n p (Head m t) there = p (Head m t) there
fixed_on a w b n p (Hop m t j) there = p (Hop m t j) there
fixed_on a w b n p (Slot m t j) there = p (Slot m t j) there
fixed_on a w b n p (Link m e) there = p (Link m e) there
fixed_on a w b n p (KeyWord m e k) there = p (KeyWord m e k) there
fixed_on a w b n p (ValueWord m e k) there = p (ValueWord m e k) there

-- words that are zeros from the first on need not be written
pub fixed_skip : (a : About) (w : Place → ℕ) (b n o : ℕ) → n ≤ o → ((k : ℕ) → n ≤ k → k < o → first_word a b k ≡ 0) → IsFilled a w b n → IsFilled a w b o
fixed_skip a w b n o up zero_there p (FixedWord c k) there = ⊎_elim
    (λ (e : c ≡ b). let q : w (FixedWord c k) ≡ (if nat_lt k n then first_word a c k else 0) = (let z : (nat_lt c b || ((c == b) && nat_lt k n)) ≡ nat_lt k n = rw (eq-eqb c b e, no c b (omega arith)) refl in subst (λ (x : Bool). w (FixedWord c k) ≡ (if x then first_word a c k else 0)) z (p (FixedWord c k) there)) in
    rw (eq-eqb c b e, no c b (omega arith)) (dite (dec_lt k n)
    (λ (l : k < n). q ∙ rw (lt-ltb k n l, lt-ltb k o (omega arith)) refl)
    (λ nl. let ge : n ≤ k = grind arith in q ∙ (rw (no k n ge) (dite (dec_lt k o)
    (λ (l : k < o). sym (ap (λ (x : ℕ). first_word a x k) e ∙ zero_there k ge l) ∙ rw (lt-ltb k o l) refl)
    (λ ng. rw (no k o (grind arith)) refl))))))
    (λ (ne : c ≢ b). let q = p (FixedWord c k) there in
    let z : (nat_lt c b || ((c == b) && nat_lt k n)) ≡ (nat_lt c b || ((c == b) && nat_lt k o)) = rw (ne_eqb c b ne) refl in subst
    (λ (x : Bool). w (FixedWord c k) ≡ (if x then first_word a c k else 0)) z q)
    (cases_eq c b)
fixed_skip a w b n o up zero_there p (RunCount d) there = p (RunCount d) there
fixed_skip a w b n o up zero_there p (KeyCount m) there = p (KeyCount m) there
fixed_skip a w b n o up zero_there p (FreeBits m j) there = p (FreeBits m j) there
fixed_skip a w b n o up zero_there p (Stamp m t) there = p (Stamp m t) there
fixed_skip a w b n o up zero_there p (Head m t) there = p (Head m t) there
fixed_skip a w b n o up zero_there p (Hop m t j) there = p (Hop m t j) there
fixed_skip a w b n o up zero_there p (Slot m t j) there = p (Slot m t j) there
fixed_skip a w b n o up zero_there p (Link m e) there = p (Link m e) there
fixed_skip a w b n o up zero_there p (KeyWord m e k) there = p (KeyWord m e k) there
fixed_skip a w b n o up zero_there p (ValueWord m e k) there = p (ValueWord m e k) there

-- an array whose words are all as made comes before the next
pub array_on : (a : About) (w : Place → ℕ) (b : ℕ) → IsFilled a w b (array_words a.shape b) → IsFilled a w (b + 1) 0
array_on a w b p (FixedWord c k) there =
    let few = less k (array_words a.shape c) (inner (nat_lt c (length a.shape.arrays)) (nat_lt k (array_words a.shape c)) true there) in
    subst (λ (x : Bool). w (FixedWord c k) ≡ (if x then first_word a c k else 0))
    (whole_map c b k (array_words a.shape b) (λ e. subst (λ (d : ℕ). k < array_words a.shape d) e few)) (p (FixedWord c k) there)
array_on a w b p (RunCount d) there = p (RunCount d) there
array_on a w b p (KeyCount m) there = p (KeyCount m) there
array_on a w b p (FreeBits m j) there = p (FreeBits m j) there
array_on a w b p (Stamp m t) there = p (Stamp m t) there
array_on a w b p (Head m t) there = p (Head m t) there
array_on a w b p (Hop m t j) there = p (Hop m t j) there
array_on a w b p (Slot m t j) there = p (Slot m t j) there
array_on a w b p (Link m e) there = p (Link m e) there
array_on a w b p (KeyWord m e k) there = p (KeyWord m e k) there
array_on a w b p (ValueWord m e k) there = p (ValueWord m e k) there

-- when all arrays are filled too, the words are those of a store as made
pub whole : (a : About) (w : Place → ℕ) → IsShape a.shape → ((b : ℕ) → b < length a.shape.arrays → AreBytes (contents_of a.shape b)) →
    IsFilled a w (length a.shape.arrays) 0 → AreNewWords a w
whole a w shaped bytes p = record {
  shaped = shaped;
  counts = λ c l. p (RunCount c) (rw (lt-ltb c a.shape.cpus l) refl);
  keys = λ m l. p (KeyCount m) (rw (lt-ltb m (length a.shape.maps) l) refl);
  bits = λ m e at_e. ap (λ (n : ℕ). bit_at n (e % 64)) (p (FreeBits m (e / 64))
      (rw (lt-ltb m (length a.shape.maps) at_e.0, lt-ltb (e / 64) (free_words (shape_at a m)) (omega (arith, at_e.1))) refl)) ∙ all_bits
      (e % 64) (omega arith);
  stamps = λ m s at_s. let z : w (Stamp m s) ≡ a.version * 256 + 2 * first_depth (shape_at a m) = p (Stamp m s) (rw (lt-ltb m (length a.shape.maps) at_s.0, lt-ltb s (segments (shape_at a m)) at_s.1) refl) in
      let d = first_most (shape_at a m) in (omega arith, omega arith, omega arith);
  heads = λ m s at_s. p (Head m s) (rw (lt-ltb m (length a.shape.maps) at_s.0, lt-ltb s (segments (shape_at a m)) at_s.1) refl);
  slots = λ m s b at_s lb. p (Slot m s b) (rw (lt-ltb m (length a.shape.maps) at_s.0, lt-ltb s (segments (shape_at a m)) at_s.1, lt-ltb b 64 lb) refl);
  hops = λ m s b at_s lb. p (Hop m s b) (rw (lt-ltb m (length a.shape.maps) at_s.0, lt-ltb s (segments (shape_at a m)) at_s.1, lt-ltb b 64 lb) refl);
  bytes = bytes;
  fixed = λ b k lb lk. p (FixedWord b k) (rw (lt-ltb b (length a.shape.arrays) lb, lt-ltb k (array_words a.shape b) lk) refl) ∙ rw
      (lt-ltb b (length a.shape.arrays) lb) refl;
}

-- a row of zeros
zero_at : (n i : ℕ) → slice_index (replicate n 0) i ≡ 0
zero_at zero i = refl
zero_at (suc n) zero = refl
zero_at (suc n) (suc i) = zero_at n i

pub zeros : (a : About) (ws : List ℕ) (n : ℕ) → ws ≡ replicate n 0 → IsPartly a (mem a.shape ws) 0 0 0 0
zeros a ws n e = subst (λ (z : List ℕ). IsPartly a (mem a.shape z) 0 0 0 0) (sym e) (none_made a (mem a.shape (replicate n 0)) (λ p. go p (is_place a.shape p)))
  where
    go : (p : Place) (b : Bool) → (if b then slice_index (replicate n 0) (at a.shape p) else 0) ≡ 0
    go p true = zero_at n (at a.shape p)
    go p false = refl
