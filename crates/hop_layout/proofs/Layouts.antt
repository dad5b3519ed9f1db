-- A place of the shape has its word to itself.
use Rattle.std.proofs.Common.{◌≡◌, ◌≢◌, ℕ, zero, suc, ◌+◌, ◌*◌, ◌<◌, ◌≤◌, nat_lt, Bool, true, false, true≢false, ◌&&◌, List, [], ◌∷◌, ◌==◌}
use Rattle.std.proofs.Common.{length, set, refl, ap, sym, subst, ◌∙◌, arith, eq-eqb, get_or-set_same, get_or-set_other}
use Rattle.std.proofs.lemmas.Bool.Decides.{nat_tests}
use Rattle.std.proofs.lemmas.Bool.{and_parts}
use native.Mathlib.Decide.{ℕ_discrete, dec_lt}
use mathlib.Core.Logic.{dite}
use Rattle.bpf_shared.specs.Shape.{Shape}
use Rattle.hop_layout.specs.declared.place.Place.{Place}
use Rattle.hop_layout.specs.declared.place.Place.TheVariants.{RunCount, KeyCount, FreeBits, Stamp, Head, Hop, Slot, Link, KeyWord, ValueWord, FixedWord}
use Rattle.hop_layout.specs.Layout.{Layout, Word, Group, sum_below, layout_size, word_at_path, is_path, layout, path, at, is_place, size}
use Rattle.hop_layout.specs.Layout.{mem, same_place, put_at}

-- ---- layouts
sum_step : (f : ℕ → ℕ) (i j : ℕ) → i < j → sum_below i f + f i ≤ sum_below j f
sum_step f i zero l = absurd (omega arith)
sum_step f i (suc j) l = dite (ℕ_discrete i j)
    (λ (e : i ≡ j). let s = ap (λ (k : ℕ). sum_below k f + f k) e in omega arith)
    (λ (ne : i ≢ j). let s = sum_step f i j (grind arith) in omega arith)

pub offset_inside : (l : Layout) (p : List ℕ) → is_path l p ≡ true → word_at_path l p < layout_size l
offset_inside Word [] e = omega arith
offset_inside Word (i ∷ p) e = absurd (true≢false (sym e))
offset_inside (Group n f) [] e = absurd (true≢false (sym e))
offset_inside (Group n f) (i ∷ p) e =
    let b = and_parts (nat_lt i n) (is_path (f i) p) e in
    let k = offset_inside (f i) p b.1 in
    let l : i < n = (let t = b.0 in grind (arith, nat_tests)) in
    let s = sum_step (λ j. layout_size (f j)) i n l in
    omega arith

-- two members whose stretches have a word in common are one
one_member : (f : ℕ → ℕ) (i j a b : ℕ) → a < f i → b < f j → sum_below i f + a ≡ sum_below j f + b → i ≡ j
one_member f i j a b x y e = dite (dec_lt i j)
    (λ (l : i < j). absurd (let s = sum_step f i j l in omega arith))
    (λ nl. dite (dec_lt j i)
    (λ (l : j < i). absurd (let s = sum_step f j i l in omega arith))
    (λ nr. grind arith))

pub offset_once : (l : Layout) (p q : List ℕ) → is_path l p ≡ true → is_path l q ≡ true → word_at_path l p ≡ word_at_path l q → p ≡ q
offset_once Word [] [] x y e = refl
offset_once Word (i ∷ p) q x y e = absurd (true≢false (sym x))
offset_once Word [] (j ∷ q) x y e = absurd (true≢false (sym y))
offset_once (Group n f) [] q x y e = absurd (true≢false (sym x))
offset_once (Group n f) (i ∷ p) [] x y e = absurd (true≢false (sym y))
offset_once (Group n f) (i ∷ p) (j ∷ q) x y e =
    let a = and_parts (nat_lt i n) (is_path (f i) p) x in
    let b = and_parts (nat_lt j n) (is_path (f j) q) y in
    let s : i ≡ j = one_member (λ k. layout_size (f k)) i j (word_at_path (f i) p) (word_at_path (f j) q) (offset_inside (f i) p a.1)
    (offset_inside (f j) q b.1) e in
    let b' : is_path (f i) q ≡ true = subst (λ (k : ℕ). is_path (f k) q ≡ true) (sym s) b.1 in
    let e' : sum_below i (λ k. layout_size (f k)) + word_at_path (f i) p ≡ sum_below i (λ k. layout_size (f k)) + word_at_path (f i) q =
    subst (λ (k : ℕ). sum_below i (λ k. layout_size (f k)) + word_at_path (f i) p ≡ sum_below k (λ k. layout_size (f k)) +
    word_at_path (f k) q) (sym s) e in
    let r : p ≡ q = offset_once (f i) p q a.1 b' (omega arith) in
    λ t. s t ∷ r t

-- ---- places
abbrev place_of : List ℕ → Place
place_of (zero ∷ c ∷ r) = RunCount c
place_of (suc zero ∷ m ∷ zero ∷ r) = KeyCount m
place_of (suc zero ∷ m ∷ suc zero ∷ i ∷ r) = FreeBits m i
place_of (suc zero ∷ m ∷ suc (suc (suc zero)) ∷ s ∷ zero ∷ r) = Stamp m s
place_of (suc zero ∷ m ∷ suc (suc (suc zero)) ∷ s ∷ suc zero ∷ r) = Head m s
place_of (suc zero ∷ m ∷ suc (suc (suc zero)) ∷ s ∷ suc (suc y) ∷ b ∷ zero ∷ r) = Hop m s b
place_of (suc zero ∷ m ∷ suc (suc (suc zero)) ∷ s ∷ suc (suc y) ∷ b ∷ suc x ∷ r) = Slot m s b
place_of (suc zero ∷ m ∷ suc (suc (suc (suc zero))) ∷ e ∷ r) = Link m e
place_of (suc zero ∷ m ∷ suc (suc (suc (suc (suc zero)))) ∷ e ∷ k ∷ r) = KeyWord m e k
place_of (suc zero ∷ m ∷ suc (suc (suc (suc (suc (suc x))))) ∷ e ∷ k ∷ r) = ValueWord m e k
place_of (suc (suc z) ∷ a ∷ k ∷ r) = FixedWord a k
place_of other = RunCount 0

place_back : (p : Place) → place_of (path p) ≡ p
place_back (RunCount c) = refl
place_back (KeyCount m) = refl
place_back (FreeBits m i) = refl
place_back (Stamp m s) = refl
place_back (Head m s) = refl
place_back (Hop m s b) = refl
place_back (Slot m s b) = refl
place_back (Link m e) = refl
place_back (KeyWord m e k) = refl
place_back (ValueWord m e k) = refl
place_back (FixedWord a k) = refl

pub at_once : (h : Shape) (p q : Place) → is_place h p ≡ true → is_place h q ≡ true → at h p ≡ at h q → p ≡ q
at_once h p q x y e = sym (place_back p) ∙ (ap place_of (offset_once (layout h) (path p) (path q) x y e) ∙ place_back q)

pub at_inside : (h : Shape) (p : Place) → is_place h p ≡ true → at h p < size h
at_inside h p x = offset_inside (layout h) (path p) x

pub one : (a b : ℕ) → (a == b) ≡ true → a ≡ b
one a b e = grind (arith, nat_tests)

two : (a b c d : ℕ) → ((a == b) && (c == d)) ≡ true → (a ≡ b) × (c ≡ d)
two a b c d e = let t = and_parts (a == b) (c == d) e in (one a b t.0, one c d t.1)

three : (a b c d i j : ℕ) → ((a == b) && (c == d) && (i == j)) ≡ true → (a ≡ b) × (c ≡ d) × (i ≡ j)
three a b c d i j e = let t = and_parts ((a == b) && (c == d)) (i == j) e in let u = two a b c d t.0 in (u.0, u.1, one i j t.1)

pub same_is : (p q : Place) → same_place p q ≡ true → p ≡ q
same_is (RunCount c) (RunCount d) e = ap RunCount (one c d e)
same_is (KeyCount c) (KeyCount d) e = ap KeyCount (one c d e)
same_is (FreeBits m i) (FreeBits n j) e = let t = two m n i j e in λ x. FreeBits (t.0 x) (t.1 x)
same_is (Stamp m i) (Stamp n j) e = let t = two m n i j e in λ x. Stamp (t.0 x) (t.1 x)
same_is (Head m i) (Head n j) e = let t = two m n i j e in λ x. Head (t.0 x) (t.1 x)
same_is (Link m i) (Link n j) e = let t = two m n i j e in λ x. Link (t.0 x) (t.1 x)
same_is (Hop m i a) (Hop n j b) e = let t = three m n i j a b e in λ x. Hop (t.0 x) (t.1 x) (t.2 x)
same_is (Slot m i a) (Slot n j b) e = let t = three m n i j a b e in λ x. Slot (t.0 x) (t.1 x) (t.2 x)
same_is (KeyWord m i a) (KeyWord n j b) e = let t = three m n i j a b e in λ x. KeyWord (t.0 x) (t.1 x) (t.2 x)
same_is (ValueWord m i a) (ValueWord n j b) e = let t = three m n i j a b e in λ x. ValueWord (t.0 x) (t.1 x) (t.2 x)
same_is (FixedWord m i) (FixedWord n j) e = let t = two m n i j e in λ x. FixedWord (t.0 x) (t.1 x)
same_is p q e = absurd (true≢false (sym e))

pub same_self : (p : Place) → same_place p p ≡ true
same_self (RunCount c) = eq-eqb c c refl
same_self (KeyCount c) = eq-eqb c c refl
same_self (FreeBits m i) = rw (eq-eqb m m refl, eq-eqb i i refl) refl
same_self (Stamp m i) = rw (eq-eqb m m refl, eq-eqb i i refl) refl
same_self (Head m i) = rw (eq-eqb m m refl, eq-eqb i i refl) refl
same_self (Link m i) = rw (eq-eqb m m refl, eq-eqb i i refl) refl
same_self (Hop m i a) = rw (eq-eqb m m refl, eq-eqb i i refl, eq-eqb a a refl) refl
same_self (Slot m i a) = rw (eq-eqb m m refl, eq-eqb i i refl, eq-eqb a a refl) refl
same_self (KeyWord m i a) = rw (eq-eqb m m refl, eq-eqb i i refl, eq-eqb a a refl) refl
same_self (ValueWord m i a) = rw (eq-eqb m m refl, eq-eqb i i refl, eq-eqb a a refl) refl
same_self (FixedWord a k) = rw (eq-eqb a a refl, eq-eqb k k refl) refl

-- ---- memory: a write at a place changes that place alone
pub wrote : (h : Shape) (ws : List ℕ) (p : Place) (n : ℕ) → length ws ≡ size h → is_place h p ≡ true → mem h (set ws (at h p) n) ≡ put_at (mem h ws) p n
wrote h ws p n sized here = λ t q. go q (is_place h q) refl (same_place q p) refl t
  where
    go : (q : Place) (b : Bool) → is_place h q ≡ b → (c : Bool) → same_place q p ≡ c → mem h (set ws (at h p) n) q ≡ put_at (mem h ws) p n q
    go q true b true c =
        let e : q ≡ p = same_is q p c in
        rw (b, c) (rw e (get_or-set_same ws (at h p) n 0 (subst (λ (k : ℕ). at h p < k) (sym sized) (at_inside h p here))))
    go q true b false c = rw (b, c) (get_or-set_other ws (at h p) (at h q) n 0
        (λ (e : at h q ≡ at h p). true≢false (sym (same_self p) ∙ (ap (λ (x : Place). same_place x p) (sym (at_once h q p b here e)) ∙ c))))
    go q false b true c = absurd (true≢false (sym here ∙ (ap (is_place h) (sym (same_is q p c)) ∙ b)))
    go q false b false c = rw (b, c) refl

-- ---- in closed form, for the code that computes where a word is
pub sum_same : (n k : ℕ) → sum_below n (λ j. k) ≡ n * k
sum_same zero k = omega arith
sum_same (suc n) k = let r = sum_same n k in grind arith
