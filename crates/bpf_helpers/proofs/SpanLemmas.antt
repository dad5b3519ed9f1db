-- Spans and what they are saved as.
use Rattle.std.proofs.Common.{◌≡◌, ℕ, suc, ◌<◌, ◌≤◌, false, List, [], ◌∷◌, ◌++◌, length, take, drop, get_or, Option, Some, None, ◌-◌, refl}
use Rattle.std.proofs.Common.{sym, ap, subst, ◌∙◌, arith, append_assoc, ◌+◌, inl, inr, length-append}
use Rattle.std.specs.Prelude.{All, IfSome, slice_get}
use Rattle.std.proofs.lemmas.Bool.{cases_lt}
use Rattle.std.proofs.lemmas.Option.{slice_get-get_or, slice_get_within}
use Rattle.bpf_base.proofs.Lists.{slice_get-append, slice_get-front}
use Rattle.std.specs.List.{flat_map}
use Rattle.std.proofs.lemmas.List.Elements.{All-nil, All-cons, All-get_or, All-from_get_or, All-take}
use Rattle.std.proofs.lemmas.List.{append-nil, length-take-le, take-append-drop, take-append-le}
use Rattle.std.proofs.lemmas.List.Concat.{flat_map-append}
use Rattle.std.proofs.Math.Seq.{take-append_seam}
use Rattle.bpf_base.specs.Bytes.{modulus, little_endian, low_bytes}
use Rattle.bpf_base.proofs.Numbers.{little_endian-low_bytes, low_bytes-little_endian}
use Rattle.bpf_base.proofs.Lists.{same_fronts}
use Rattle.bpf_mem.specs.Saved.{IsWord, words_saved}
use Rattle.bpf_mem.proofs.WordLemmas.{words_prefix}
use Rattle.bpf_mem.proofs.WordReading.{all_behind}
use Rattle.bpf_mem.proofs.CodeLemmas.{flat_prefix, goes_on}
use Rattle.bpf_shared.specs.declared.events.Span.{Span}
use Rattle.bpf_shared.specs.Shape.{IsElement}
use Rattle.bpf_helpers.specs.Held.{AreElements, has_span, max_held}
use Rattle.bpf_helpers.specs.Saved.{span_saved, spans_saved, AreOnce, AreSavable, IsWide, MayBeHeld}

pub no_span : Span
no_span = record { at = 0; size = 0 }

two : (p : Span) → IsWide p → All IsWord (p.at ∷ p.size ∷ [])
two p h = All-cons IsWord p.at (p.size ∷ []) h.0 (All-cons IsWord p.size [] h.1 (All-nil IsWord))

pub two_words : (l : List ℕ) → length l ≡ 2 → l ≡ get_or l 0 0 ∷ get_or l 1 0 ∷ []
two_words [] e = absurd (omega arith)
two_words (a ∷ []) e = absurd (omega arith)
two_words (a ∷ b ∷ []) e = refl
two_words (a ∷ b ∷ c ∷ l) e = absurd (omega arith)

pub span_told : (x y : Span) (rest more : List ℕ) → IsWide x → IsWide y → span_saved x ++ rest ≡ span_saved y ++ more → (x ≡ y) × (rest ≡ more)
span_told x y rest more h k e =
    let same = words_prefix 0 (x.at ∷ x.size ∷ []) (y.at ∷ y.size ∷ []) rest more refl (two x h) (two y k) e in
    let both : x.at ∷ x.size ∷ [] ≡ y.at ∷ y.size ∷ [] = same.0 in
    let at : x.at ≡ y.at = cc in
    let size : x.size ≡ y.size = cc in
    (λ j. record { at = at j; size = size j }, same.1)

pub span_none : (bytes : List ℕ) → ((others rest : List ℕ) → length others ≡ 2 → All IsWord others → bytes ≡ words_saved 0 others ++ rest → ⊥)
    → (other : Span) (more : List ℕ) → IsWide other → bytes ≡ span_saved other ++ more → ⊥
span_none bytes none other more h e = none (other.at ∷ other.size ∷ []) more refl (two other h) e

abbrev pub span_of : List ℕ → Span
span_of l = record { at = get_or l 0 0; size = get_or l 1 0 }

pub span_read : (bytes words rest : List ℕ) → length words ≡ 2 → bytes ≡ words_saved 0 words ++ rest → bytes ≡ span_saved (span_of words) ++ rest
span_read bytes words rest size read = read ∙ ap (λ (l : List ℕ). words_saved 0 l ++ rest) (two_words words size)

pub span_is : (l : List ℕ) → length l ≡ 2 → All IsWord l → IsWide (span_of l)
span_is l size fit = (All-get_or IsWord l 0 0 (omega arith) fit, All-get_or IsWord l 1 0 (omega arith) fit)

-- the number of spans is determined by its two bytes
count_told : (n m : ℕ) → n ≤ max_held → m ≤ max_held → low_bytes 2 n ≡ low_bytes 2 m → n ≡ m
count_told n m h k e =
    let a : n < modulus 2 = omega arith in
    let b : m < modulus 2 = omega arith in
    sym (little_endian-low_bytes 2 n a) ∙ (ap little_endian e ∙ little_endian-low_bytes 2 m b)

pub spans_told : (xs ys : List Span) (rest more : List ℕ) → AreSavable xs → AreSavable ys → spans_saved xs ++ rest ≡ spans_saved ys ++ more
    → (xs ≡ ys) × (rest ≡ more)
spans_told xs ys rest more h k e =
    let n = low_bytes 2 (length xs) in
    let m = low_bytes 2 (length ys) in
    let cut = same_fronts n m (flat_map span_saved xs ++ rest) (flat_map span_saved ys ++ more) refl
    (sym (append_assoc n (flat_map span_saved xs) rest) ∙ (e ∙ append_assoc m (flat_map span_saved ys) more)) in
    flat_prefix IsWide span_saved no_span span_told xs ys rest more (count_told (length xs) (length ys) h.few k.few cut.0) h.wide k.wide cut.1

-- ---- reading
front_elements : (done back : List Span) (p : Span) → AreElements (done ++ p ∷ back) → AreElements (done ++ p ∷ [])
front_elements done back p (maps, are, all) =
    let whole : done ++ p ∷ back ≡ (done ++ p ∷ []) ++ back = sym (append_assoc done (p ∷ []) back) in
    let each : All (IsElement maps) ((done ++ p ∷ []) ++ back) = subst (λ (l : List Span). All (IsElement maps) l) whole all in (
      maps,
      are,
      subst (λ (l : List Span). All (IsElement maps) l) (take-append_seam (done ++ p ∷ []) back)
          (All-take (IsElement maps) (length (done ++ p ∷ [])) ((done ++ p ∷ []) ++ back) each),
    )

module _ (bytes : List ℕ) (done : List Span) (rest : List ℕ) (wide : All IsWide done) (read : bytes ≡ flat_map span_saved done ++ rest)
    (others : List Span) (more : List ℕ) (inside : length done < length others) (may : MayBeHeld others) (e : bytes ≡ flat_map span_saved others ++ more) where
  -- where no span can be read
  pub none_next : ((other : Span) (more : List ℕ) → IsWide other → rest ≡ span_saved other ++ more → ⊥) → ⊥
  none_next none =
      let on = goes_on IsWide span_saved no_span span_told bytes done rest wide read others more inside may.savable.wide e in
      none (get_or others (length done) no_span) (flat_map span_saved (drop (suc (length done)) others) ++ more)
      (All-get_or IsWide others (length done) no_span inside may.savable.wide) on.1

  -- where the one that is read can't be held
  pub none_held : (p : Span) (behind : List ℕ) → IsWide p → rest ≡ span_saved p ++ behind
      → (length done < max_held → has_span done p ≡ false → AreElements (done ++ p ∷ []) → ⊥) → ⊥
  none_held p behind fit here refused =
      let on = goes_on IsWide span_saved no_span span_told bytes done rest wide read others more inside may.savable.wide e in
      let x = get_or others (length done) no_span in
      let back = drop (suc (length done)) others in
      let same = span_told x p (flat_map span_saved back ++ more) behind
      (All-get_or IsWide others (length done) no_span inside may.savable.wide) fit (sym on.1 ∙ here) in
      let few = may.savable.few in
      let front : take (length done) others ≡ done = ap (take (length done)) on.0 ∙ take-append_seam done (x ∷ back) in
      let once : has_span done x ≡ false = ap (λ (l : List Span). has_span l x) (sym front) ∙ may.once (length done) x
      (slice_get-get_or others (length done) no_span inside) in
      let elements : AreElements (done ++ x ∷ []) = front_elements done back x (subst AreElements on.0 may.elements) in
      refused (omega arith) (subst (λ (q : Span). has_span done q ≡ false) same.0 once) (subst (λ (q : Span). AreElements (done ++ q ∷ [])) same.0 elements)

pub none_once : AreOnce []
none_once k p e = let none = slice_get_within [] k p e in absurd (omega (arith, none))

-- each is still once
pub once_more : (done : List Span) (p : Span) → AreOnce done → has_span done p ≡ false → AreOnce (done ++ p ∷ [])
once_more done p once fresh k q e =
    let size : k < length done + 1 = omega (arith, slice_get_within (done ++ p ∷ []) k q e, length-append done (p ∷ [])) in
    elim (cases_lt k (length done)) [
      | inl before ↦
          let here : slice_get done k ≡ Some q = sym (slice_get-front done (p ∷ []) k before) ∙ e in
          let short : k ≤ length done = omega arith in
          ap (λ (l : List Span). has_span l q) (take-append-le k done (p ∷ []) short) ∙ once k q here
      | inr last ↦
          let at : k ≡ length done + 0 = omega arith in
          let here : Some p ≡ Some q = sym (slice_get-append done (p ∷ []) 0 k at) ∙ e in
          let same : p ≡ q = cc in
          let end : k ≡ length done = omega arith in
          let front : take k (done ++ p ∷ []) ≡ done = ap (λ (n : ℕ). take n (done ++ p ∷ [])) end ∙ take-append_seam done (p ∷ []) in
          ap (λ (l : List Span). has_span l q) front ∙ (ap (λ (x : Span). has_span done x) (sym same) ∙ fresh)
    ]

-- one more is read
pub one_read : (bytes : List ℕ) (done new : List Span) (p : Span) (rest behind : List ℕ) → bytes ≡ flat_map span_saved done ++ rest → rest ≡
    span_saved p ++ behind → new ≡ done ++ p ∷ []
    → bytes ≡ flat_map span_saved new ++ behind
one_read bytes done new p rest behind read here is =
    let one : flat_map span_saved (done ++ p ∷ []) ≡ flat_map span_saved done ++ span_saved p = flat_map-append span_saved done (p ∷ []) ∙
    ap (λ (l : List ℕ). flat_map span_saved done ++ l) (append-nil (span_saved p)) in
    read ∙ (ap (λ (l : List ℕ). flat_map span_saved done ++ l) here ∙
    (sym (append_assoc (flat_map span_saved done) (span_saved p) behind) ∙ ap (λ (l : List ℕ). l ++ behind)
    (sym one ∙ ap (flat_map span_saved) (sym is))))

-- ---- reading all of them
pub both_some : {A : Type 0} (P Q R : A → Type 0) (r : Option A) → IfSome r P → IfSome r Q → ((a : A) → P a → Q a → R a) → IfSome r R
both_some P Q R None p q f = tt
both_some P Q R (Some a) p q f = f a p q

pub counted : (bytes : List ℕ) → 2 ≤ length bytes → ((i : ℕ) → get_or bytes i 0 < 256) → bytes ≡ low_bytes 2 (little_endian (take 2 bytes))
    ++ take (length bytes - 2) (drop 2 bytes)
counted bytes long each =
    let small : All (λ b. b < 256) bytes = All-from_get_or (λ b. b < 256) bytes 0 (λ i h. each i) in
    let size : length (take 2 bytes) ≡ 2 = length-take-le 2 bytes long in
    let back : low_bytes 2 (little_endian (take 2 bytes)) ≡ take 2 bytes = ap (λ (n : ℕ). low_bytes n (little_endian (take 2 bytes)))
    (sym size) ∙ low_bytes-little_endian (take 2 bytes) (All-take (λ b. b < 256) 2 bytes small) in
    sym (take-append-drop 2 bytes) ∙ (ap (λ (l : List ℕ). l ++ drop 2 bytes) (sym back) ∙ ap
    (λ (l : List ℕ). low_bytes 2 (little_endian (take 2 bytes)) ++ l) (sym (all_behind 2 bytes)))

pub all_read : (bytes rest behind : List ℕ) (count : ℕ) (spans : List Span) → bytes ≡ low_bytes 2 count ++ rest → rest ≡ flat_map span_saved
    spans ++ behind → length spans ≡ count → bytes ≡ spans_saved spans ++ behind
all_read bytes rest behind count spans begins read size =
    begins ∙ (ap (λ (l : List ℕ). low_bytes 2 count ++ l) read ∙
    (ap (λ (n : ℕ). low_bytes 2 n ++ (flat_map span_saved spans ++ behind)) (sym size) ∙ sym
    (append_assoc (low_bytes 2 (length spans)) (flat_map span_saved spans) behind)))
