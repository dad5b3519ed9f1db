-- What writes leave of the bytes of values, byte by byte.
use Rattle.std.proofs.Common.{◌≡◌, ◌≢◌, ℕ, zero, suc, ◌+◌, ◌-◌, ◌<◌, ◌≤◌, Bool, true, false, List, [], ◌∷◌, ◌++◌, length, take, drop}
use Rattle.std.proofs.Common.{Option, Some, None, inl, inr, refl, sym, ap, subst, ◌∙◌, arith, length-append}
use Rattle.std.specs.Prelude.{slice_get}
use Rattle.std.proofs.lemmas.Bool.{cases_lt, false_from_ne_true}
use Rattle.std.proofs.lemmas.List.{length-take-le}
use Rattle.bpf_base.specs.Bytes.{low_bytes, part, with_part, little_endian}
use Rattle.bpf_base.proofs.Numbers.{length-low_bytes}
use Rattle.bpf_base.proofs.Lists.{slice_get-append, slice_get-front, slice_get-take, slice_get-drop}
use Rattle.bpf_base.proofs.Parts.{slice_get-with_part}
use Rattle.bpf_shared.specs.declared.events.Span.{Span}
use Rattle.bpf_shared.specs.Store.{Value, Plain, IsLive}
use Rattle.bpf_shared.specs.Events.{Reaches, after_write, number_in}
use Rattle.bpf_shared.specs.Sound.{IsSoundStore}
use Rattle.bpf_shared.proofs.Puts.{true_or_false, equal_or_not, put-same, put-other}
use Rattle.bpf_shared.proofs.Soundness.{reached_live}
use Rattle.bpf_x86.specs.Forwarding.{within, written}
use Rattle.bpf_x86.proofs.Overlay.{within_parts, within_from, beside, not_written, is_written}

-- the i-th byte of a value, and its address
abbrev pub at : Plain → ℕ → ℕ → Option ℕ
at s v i = slice_get (s.value v).bytes i

abbrev pub address : Plain → ℕ → ℕ → ℕ
address s v i = (s.value v).span.at + i

-- ---- lists that are equal element by element
pub same_list : {A : Type 0} (xs ys : List A) → ((j : ℕ) → slice_get xs j ≡ slice_get ys j) → xs ≡ ys
same_list [] [] same = refl
same_list [] (y ∷ ys) same = let no : None ≡ Some y = same 0 in cc
same_list (x ∷ xs) [] same = let no : Some x ≡ None = same 0 in cc
same_list (x ∷ xs) (y ∷ ys) same =
    let head : Some x ≡ Some y = same 0 in
    let here : x ≡ y = cc in
    let rest : xs ≡ ys = same_list xs ys (λ j. same (suc j)) in
    cc

-- and lists of one length whose elements in a range are equal
past_take : (n : ℕ) (xs : List ℕ) (j : ℕ) → n ≤ j → slice_get (take n xs) j ≡ None
past_take zero xs j h = refl
past_take (suc n) [] j h = refl
past_take (suc n) (x ∷ xs) zero h = absurd (omega arith)
past_take (suc n) (x ∷ xs) (suc j) h = past_take n xs j (omega arith)

pub same_part : (xs ys : List ℕ) (i n : ℕ) → ((j : ℕ) → j < n → slice_get xs (i + j) ≡ slice_get ys (i + j)) → part xs i n ≡ part ys i n
same_part xs ys i n same = same_list (part xs i n) (part ys i n) (λ j. elim (cases_lt j n) [
  | inl l ↦ slice_get-take n (drop i xs) j l ∙ slice_get-drop i xs j (i + j) refl ∙ same j l ∙ sym
      (slice_get-take n (drop i ys) j l ∙ slice_get-drop i ys j (i + j) refl)
  | inr past ↦ past_take n (drop i xs) j past ∙ sym (past_take n (drop i ys) j past)
])

-- ---- a part that is replaced
in_part : (list : List ℕ) (i : ℕ) (others : List ℕ) → i + length others ≤ length list → (k j : ℕ) → k ≡ i + j → j < length others →
    slice_get (with_part list i others) k ≡ slice_get others j
in_part list i others fits k j e below =
    let front : length (take i list) ≡ i = length-take-le i list (omega arith) in
    let both : length (take i list ++ others) ≡ length (take i list) + length others = length-append (take i list) others in
    slice_get-front (take i list ++ others) (drop (i + length others) list) k (omega (arith, front, both))
    ∙ slice_get-append (take i list) others j k (omega (arith, front))

-- ---- a write
module _ (s : Plain) (c v a n : ℕ) (so : IsSoundStore s) (r : Reaches s c v a n) where
  -- the value has all bytes of the access
  fits : (x : ℕ) → ((a - (s.value v).span.at) + length (low_bytes n x) ≤ length (s.value v).bytes) × ((s.value v).span.at ≤ a) × (length (low_bytes n x) ≡ n)
  fits x =
      let low : length (low_bytes n x) ≡ n = length-low_bytes n x in
      let size : length (s.value v).bytes ≡ (s.value v).span.size = so.sizes v (so.live_made v (reached_live s c v a n r)) in
      let from : (s.value v).span.at ≤ a = r.covers.0 in
      let to : a + n ≤ (s.value v).span.at + (s.value v).span.size = r.covers.1 in
      (omega arith, from, low)

  -- in the value itself
  pub write_here : (x i : ℕ) → at (after_write s v a n x) v i ≡ written a n x (address s v i) (at s v i)
  write_here x i =
      let off = a - (s.value v).span.at in
      let low = low_bytes n x in
      let f = fits x in
      let whole : off + length low ≤ length (s.value v).bytes = f.0 in
      let from : (s.value v).span.at ≤ a = f.1 in
      let size : length low ≡ n = f.2 in
      let now : Value = record (s.value v) { bytes = with_part (s.value v).bytes off low } in
      ap (λ (y : Value). slice_get y.bytes i) (put-same s.value v v now refl)
      ∙ elim (true_or_false (within a n (address s v i))) [
        | inl h ↦
            let in_it = within_parts a n (address s v i) h in
            let least : a ≤ (s.value v).span.at + i = in_it.0 in
            let most : (s.value v).span.at + i < a + n = in_it.1 in
            in_part (s.value v).bytes off low whole i (address s v i - a) (omega arith) (omega arith) ∙ sym (is_written a n x (address s v i) (at s v i) h)
        | inr h ↦
            slice_get-with_part (s.value v).bytes off low whole i (elim (beside a n (address s v i) h) [
              | inl below ↦ inl (let less : (s.value v).span.at + i < a = below in omega arith)
              | inr above ↦ inr (let more : a + n ≤ (s.value v).span.at + i = above in omega arith)
            ]) ∙ sym (not_written a n x (address s v i) (at s v i) h)
      ]

  -- in another
  pub write_there : (x w i : ℕ) → w ≢ v → at (after_write s v a n x) w i ≡ at s w i
  write_there x w i ne = ap (λ (y : Value). slice_get y.bytes i)
      (put-other s.value v w (record (s.value v) { bytes = with_part (s.value v).bytes (a - (s.value v).span.at) (low_bytes n x) }) ne)

  -- the addresses of another live value aren't touched
  pub apart_missed : (w i : ℕ) → IsLive s w → w ≢ v → i < (s.value w).span.size → within a n (address s w i) ≡ false
  apart_missed w i live ne inside = false_from_ne_true (within a n (address s w i)) (λ h.
      let in_it = within_parts a n (address s w i) h in
      let from : (s.value v).span.at ≤ a = r.covers.0 in
      let to : a + n ≤ (s.value v).span.at + (s.value v).span.size = r.covers.1 in
      let least : a ≤ (s.value w).span.at + i = in_it.0 in
      let most : (s.value w).span.at + i < a + n = in_it.1 in
      so.apart w v live (reached_live s c v a n r) ne (address s w i) (omega arith, omega arith) (omega arith, omega arith))

  -- so in each live value, by its addresses
  pub write_live : (x w i : ℕ) → IsLive s w → i < (s.value w).span.size → at (after_write s v a n x) w i ≡ written a n x (address s w i) (at s w i)
  write_live x w i live inside = elim (equal_or_not w v) [
    | inl e ↦ subst (λ (k : ℕ). at (after_write s v a n x) k i ≡ written a n x (address s k i) (at s k i)) (sym e) (write_here x i)
    | inr ne ↦ write_there x w i ne ∙ sym (not_written a n x (address s w i) (at s w i) (apart_missed w i live ne inside))
  ]

  -- a value that fails a test stays, where the one that is written passes it
  pub write_unreached : (is : ℕ → Bool) (x w i : ℕ) → is v ≡ true → is w ≡ false → at (after_write s v a n x) w i ≡ at s w i
  write_unreached is x w i holds none = write_there x w i (λ e. let has : is w ≡ true = ap is e ∙ holds in cc)

-- ---- a number that is read
pub same_number : (s t : Plain) (v a n : ℕ) → (s.value v).span ≡ (t.value v).span → (s.value v).span.at ≤ a
    → ((i : ℕ) → within a n (address s v i) ≡ true → at s v i ≡ at t v i) → number_in s v a n ≡ number_in t v a n
same_number s t v a n spans least same =
    let off = a - (s.value v).span.at in
    let parts : part (s.value v).bytes off n ≡ part (t.value v).bytes off n = same_part (s.value v).bytes (t.value v).bytes off n
    (λ j below. same (off + j) (hit j below)) in
    ap little_endian parts ∙ ap (λ (p : Span). little_endian (part (t.value v).bytes (a - p.at) n)) spans
  where
    hit : (j : ℕ) → j < n → within a n (address s v (a - (s.value v).span.at + j)) ≡ true
    hit j below = within_from a n (address s v (a - (s.value v).span.at + j)) (omega arith) (omega arith)
