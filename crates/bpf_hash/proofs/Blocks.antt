-- Lists that are cut into blocks of one length, and parts of lists that are replaced.
use Rattle.std.proofs.Common.{◌≡◌, ◌≢◌, ℕ, ◌+◌, ◌-◌, ◌*◌, ◌/◌, ◌<◌, ◌≤◌, List, ◌++◌, length, take, drop, length-append, length-drop, get_or}
use Rattle.std.proofs.Common.{◌⊎◌, inl, inr, sym, ap, ◌∙◌, arith}
use Rattle.std.proofs.Math.Nat.{mul-le-mul_right}
use Rattle.std.proofs.lemmas.Nat.{div-mul-add}
use Rattle.std.proofs.lemmas.Bool.{cases_lt}
use Rattle.std.proofs.Math.ListN.{get_or-append}
use Rattle.std.proofs.lemmas.List.{ext_get_or, get_or-append_right, get_or-take, get_or-drop, length-take-le}
use Rattle.bpf_base.specs.Bytes.{part, with_part}
use Rattle.bpf_base.proofs.Parts.{length-with_part}

pub below_or_same : (i n : ℕ) → i < n + 1 → i ≢ n → i < n
below_or_same i n l ne = elim (cases_lt i n) [ inl k ↦ k | inr k ↦ absurd (ne (omega arith)) ]

pub suc-mul : (i w : ℕ) → (i + 1) * w ≡ i * w + w
suc-mul i w = grind arith

-- blocks rise
pub next_block : (i j w : ℕ) → i < j → i * w + w ≤ j * w
next_block i j w l = let k : (i + 1) * w ≤ j * w = mul-le-mul_right w (let m : i + 1 ≤ j = omega arith in m) in omega (arith, k, suc-mul i w)

pub block_fits : (i n w : ℕ) → i < n → i * w + w ≤ n * w
block_fits i n w l = next_block i n w l

pub in_block : (i n w c : ℕ) → i < n → c < w → i * w + c < n * w
in_block i n w c l k = omega (arith, block_fits i n w l)

pub suc-block : (n k w : ℕ) → n ≤ k → n * w ≤ k * w
suc-block n k w l = mul-le-mul_right w l

-- a place has one block
pub one_block : (i j w c d : ℕ) → c < w → d < w → i * w + c ≡ j * w + d → i ≡ j
one_block i j w c d k l e = sym (div-mul-add i w c k) ∙ (ap (λ (n : ℕ). n / w) e ∙ div-mul-add j w d l)

pub one_place : (i j w c d : ℕ) → c < w → d < w → i * w + c ≡ j * w + d → c ≡ d
one_place i j w c d k l e = let s : i ≡ j = one_block i j w c d k l e in let t : i * w ≡ j * w = ap (λ (n : ℕ). n * w) s in omega arith

pub apart_blocks : (i j w : ℕ) → i ≢ j → (i * w + w ≤ j * w) ⊎ (j * w + w ≤ i * w)
apart_blocks i j w ne = elim (cases_lt i j) [
  | inl l ↦ inl (next_block i j w l)
  | inr l ↦ inr (next_block j i w (let n : i ≡ j → ⊥ = ne in elim (cases_lt j i) [ inl k ↦ k | inr k ↦ absurd (n (omega arith)) ]))
]

-- ---- what is where after a part is replaced
module _ (bs others : List ℕ) (i : ℕ) (l : i + length others ≤ length bs) where
  front : length (take i bs) ≡ i
  front = length-take-le i bs (omega arith)

  whole : length (take i bs ++ others) ≡ i + length others
  whole = length-append (take i bs) others ∙ ap (λ (n : ℕ). n + length others) front

  pub get_or-before : (k : ℕ) → k < i → get_or (with_part bs i others) k 0 ≡ get_or bs k 0
  get_or-before k h =
      get_or-append (take i bs ++ others) (drop (i + length others) bs) 0 k (omega (arith, whole))
      ∙ (get_or-append (take i bs) others 0 k (omega (arith, front)) ∙ get_or-take i bs k 0 h)

  pub get_or-inside : (k : ℕ) → k < length others → get_or (with_part bs i others) (i + k) 0 ≡ get_or others k 0
  get_or-inside k h =
      get_or-append (take i bs ++ others) (drop (i + length others) bs) 0 (i + k) (omega (arith, whole))
      ∙ (get_or-append_right (take i bs) others i (i + k) 0 front (omega arith) ∙ ap (λ (n : ℕ). get_or others n 0) (let e : i + k - i ≡ k = omega arith in e))

  pub get_or-behind : (k : ℕ) → i + length others ≤ k → get_or (with_part bs i others) k 0 ≡ get_or bs k 0
  get_or-behind k h =
      get_or-append_right (take i bs ++ others) (drop (i + length others) bs) (i + length others) k 0 whole h
      ∙ (get_or-drop (i + length others) bs (k - (i + length others)) 0 ∙ ap (λ (n : ℕ). get_or bs n 0)
      (let e : i + length others + (k - (i + length others)) ≡ k = omega arith in e))

pub get_or-part : (bs : List ℕ) (i n k : ℕ) → k < n → get_or (part bs i n) k 0 ≡ get_or bs (i + k) 0
get_or-part bs i n k l = get_or-take n (drop i bs) k 0 l ∙ get_or-drop i bs k 0

pub length-part : (bs : List ℕ) (i n : ℕ) → i + n ≤ length bs → length (part bs i n) ≡ n
length-part bs i n l = length-take-le n (drop i bs) (omega (arith, length-drop i bs))

-- a part beside the one that is replaced
pub part-beside : (bs others : List ℕ) (i j n : ℕ) → i + length others ≤ length bs → j + n ≤ length bs → (j + n ≤ i) ⊎ (i + length others ≤ j)
    → part (with_part bs i others) j n ≡ part bs j n
part-beside bs others i j n l m beside =
    let same : length (with_part bs i others) ≡ length bs = length-with_part bs i others l in
    let long : length (part (with_part bs i others) j n) ≡ n = length-part (with_part bs i others) j n (omega arith) in
    ext_get_or 0 (part (with_part bs i others) j n) (part bs j n) (long ∙ sym (length-part bs j n m)) (λ k h.
    let below : k < n = omega arith in
    get_or-part (with_part bs i others) j n k below ∙ (elim beside [
      | inl before ↦ get_or-before bs others i l (j + k) (omega arith)
      | inr behind ↦ get_or-behind bs others i l (j + k) (omega arith)
    ] ∙ sym (get_or-part bs j n k below)))

-- a part in which a part is replaced
pub part-within : (bs others : List ℕ) (j n o : ℕ) → j + n ≤ length bs → o + length others ≤ n
    → part (with_part bs (j + o) others) j n ≡ with_part (part bs j n) o others
part-within bs others j n o l m =
    let fits : j + o + length others ≤ length bs = omega arith in
    let size : length (part bs j n) ≡ n = length-part bs j n l in
    let inner : o + length others ≤ length (part bs j n) = omega arith in
    let same : length (with_part bs (j + o) others) ≡ length bs = length-with_part bs (j + o) others fits in
    let long : length (part (with_part bs (j + o) others) j n) ≡ n = length-part (with_part bs (j + o) others) j n (omega arith) in
    let kept : length (with_part (part bs j n) o others) ≡ length (part bs j n) = length-with_part (part bs j n) o others inner in
    ext_get_or 0 (part (with_part bs (j + o) others) j n) (with_part (part bs j n) o others) (long ∙ sym (kept ∙ size)) (λ k h.
    let below : k < n = omega arith in
    get_or-part (with_part bs (j + o) others) j n k below ∙ elim (cases_lt k o) [
      | inl before ↦ get_or-before bs others (j + o) fits (j + k) (omega arith)
          ∙ (sym (get_or-part bs j n k below) ∙ sym (get_or-before (part bs j n) others o inner k before))
      | inr from ↦ elim (cases_lt k (o + length others)) [
        | inl inside ↦
            let at : k - o < length others = omega arith in
            ap (λ (x : ℕ). get_or (with_part bs (j + o) others) x 0) (let e : j + k ≡ j + o + (k - o) = omega arith in e)
            ∙ (get_or-inside bs others (j + o) fits (k - o) at
            ∙ (sym (get_or-inside (part bs j n) others o inner (k - o) at) ∙ ap (λ (x : ℕ). get_or (with_part (part bs j n) o others) x 0)
            (let e : o + (k - o) ≡ k = omega arith in e)))
        | inr behind ↦ get_or-behind bs others (j + o) fits (j + k) (omega arith)
            ∙ (sym (get_or-part bs j n k below) ∙ sym (get_or-behind (part bs j n) others o inner k behind))
      ]
    ])

-- ---- blocks
pub block-same : (bs others : List ℕ) (i n w : ℕ) → length bs ≡ n * w → length others ≡ w → i < n → part (with_part bs (i * w) others) (i * w) w ≡ others
block-same bs others i n w size long l =
    let fits : i * w + length others ≤ length bs = omega (arith, block_fits i n w l) in
    ap (λ (k : ℕ). part (with_part bs (i * w) others) (i * w) k) (sym long) ∙ Rattle.bpf_base.proofs.Parts.part-with_part bs (i * w) others fits

pub block-other : (bs others : List ℕ) (i j n w : ℕ) → length bs ≡ n * w → length others ≡ w → i < n → j < n → j ≢ i
    → part (with_part bs (i * w) others) (j * w) w ≡ part bs (j * w) w
block-other bs others i j n w size long l m ne =
    part-beside bs others (i * w) (j * w) w (omega (arith, block_fits i n w l)) (omega (arith, block_fits j n w m)) (elim (apart_blocks j i w ne) [
      | inl k ↦ inl k
      | inr k ↦ inr (omega arith)
    ])

-- bytes of one block are replaced
pub block-within : (bs others : List ℕ) (i n w o : ℕ) → length bs ≡ n * w → i < n → o + length others ≤ w
    → part (with_part bs (i * w + o) others) (i * w) w ≡ with_part (part bs (i * w) w) o others
block-within bs others i n w o size l m = part-within bs others (i * w) w o (omega (arith, block_fits i n w l)) m

pub block-beside : (bs others : List ℕ) (i j n w o : ℕ) → length bs ≡ n * w → i < n → j < n → o + length others ≤ w → j ≢ i
    → part (with_part bs (i * w + o) others) (j * w) w ≡ part bs (j * w) w
block-beside bs others i j n w o size l m h ne =
    part-beside bs others (i * w + o) (j * w) w (omega (arith, block_fits i n w l)) (omega (arith, block_fits j n w m)) (elim (apart_blocks j i w ne) [
      | inl k ↦ inl (omega arith)
      | inr k ↦ inr (omega arith)
    ])
