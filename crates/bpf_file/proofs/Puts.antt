-- What lines `put` are refused for, and what their numbers are.
use Rattle.std.proofs.Common.{◌≡◌, ℕ, zero, suc, ◌+◌, ◌-◌, ◌*◌, ◌^◌, ◌<◌, ◌≤◌, ◌==◌, ◌&&◌, nat_lt, Bool, true, false, if◌then◌else◌, List}
use Rattle.std.proofs.Common.{[], ◌∷◌, ◌++◌, length, drop, map, get_or, append_assoc, append-nil, Option, Some, None, Result, Ok, Err, refl}
use Rattle.std.proofs.Common.{sym, ap, subst, ◌∙◌, arith}
use Rattle.std.specs.Prelude.{IfSome, IsSomeAnd, slice_get}
use Rattle.std.specs.List.{IsLastAndRest}
use Rattle.std.proofs.lemmas.Bool.Decides.{nat_tests}
use Rattle.std.proofs.lemmas.List.{drop_more, get_or-map, length-map}
use denote.Ref.{Bor}
use Rattle.std.specs.Option.{option_map}
use Rattle.bpf_base.specs.Bytes.{low_bytes, modulus}
use Rattle.bpf_lines.specs.Words.{written_number}
use Rattle.bpf_shared.specs.Access.{bytes_in}
use Rattle.bpf_shared.specs.declared.events.Size.{Size}
use Rattle.bpf_shared.specs.declared.events.Size.TheVariants.{Byte, Half, Word, Double}
use Rattle.bpf_shared.specs.declared.shapes.ArrayShape.{ArrayShape}
use Rattle.bpf_shared.specs.declared.shapes.ShapeError.TheVariants.{ArrayContents}
use Rattle.bpf_shared.specs.Shape.{IsArrayShape, array_stride}
use Rattle.bpf_shared.proofs.Refusing.{arrays_in_range}
use Rattle.bpf_file.specs.declared.draft.Next.{Next}
use Rattle.bpf_file.specs.declared.error.FileError.{FileError}
use Rattle.bpf_file.specs.declared.error.Reason.{Reason}
use Rattle.bpf_file.specs.declared.error.Reason.TheVariants as reason
use Rattle.bpf_file.specs.Parts.{Part, State}
use Rattle.bpf_file.specs.Statement.{closed}
use Rattle.bpf_file.specs.Rows.{element_added, element_numbered, number_of, numbers_of, numbers_put, one_more, pair_added, pair_numbered}
use Rattle.bpf_file.specs.Rows.{put_added, value_place, with_others}
use Rattle.bpf_file.specs.Private.Answers.{OrMemory}
use Rattle.bpf_file.specs.Private.Drafts.{after}
use Rattle.bpf_file.specs.Private.Fits.{IsFit}

-- ---- numbers that 64 bits don't hold

most_of : (size : Size) → modulus (bytes_in size) ≤ 2 ^ 64
most_of Byte = omega arith
most_of Half = omega arith
most_of Word = omega arith
most_of Double = omega arith

pub too_large : (size : Size) (o : Option ℕ) → IsSomeAnd o (λ n. 2 ^ 64 ≤ n) → Err reason.BadNumber ≡ number_of size o
too_large size None large = absurd large
too_large size (Some n) large =
    let most = most_of size in
    let above : modulus (bytes_in size) ≤ n = omega (arith, most, large) in
    let no : nat_lt n (modulus (bytes_in size)) ≡ false = grind (arith, nat_tests) in
    ap (λ (b : Bool). if b then Ok n else Err reason.BadNumber) (sym no)

pub past_all : (a : ℕ) (g : ArrayShape) (fits : Bool) (o : Option ℕ) → g.max ≤ 65536 → IsSomeAnd o (λ n. 2 ^ 64 ≤ n) → Err
    (reason.Shape (ArrayContents a)) ≡ value_place a g fits o
past_all a g fits None small large = absurd large
past_all a g fits (Some n) small large =
    let above : g.max ≤ n = omega (arith, small, large) in
    let no : nat_lt n g.max ≡ false = grind (arith, nat_tests) in
    ap (λ (b : Bool). if b && fits then Ok (n * array_stride g) else Err (reason.Shape (ArrayContents a))) (sym no)

-- ---- numbers of a line

abbrev pub AreLeft : Size → List (List ℕ) → List ℕ → ℕ → Type 0
AreLeft size words bytes k = numbers_of size words ≡ one_more bytes (numbers_of size (drop k words))

pub none_read : (size : Size) (words : List (List ℕ)) → AreLeft size words [] 0
none_read size words = no_more (numbers_of size words)
  where
    no_more : (r : Result (List ℕ) Reason) → r ≡ one_more [] r
    no_more (Ok more) = refl
    no_more (Err why) = refl

one_and_more : (bytes some : List ℕ) (r : Result (List ℕ) Reason) → one_more bytes (one_more some r) ≡ one_more (bytes ++ some) r
one_and_more bytes some (Ok more) = ap Ok (sym (append_assoc bytes some more))
one_and_more bytes some (Err why) = refl

next_word : (words : List (List ℕ)) (k : ℕ) (word : List ℕ) → k < length words → word ≡ get_or words k [] → drop k words ≡ word ∷ drop (k + 1) words
next_word words k word inside is = drop_more words k [] inside ∙ ap (λ (x : List ℕ). x ∷ drop (k + 1) words) (sym is)

one_read : (size : Size) (words : List (List ℕ)) (bytes : List ℕ) (k : ℕ) (word : List ℕ) (n : ℕ) → k < length words → word ≡ get_or words k
    [] → Ok n ≡ number_of size (written_number word)
    → AreLeft size words bytes k → AreLeft size words (bytes ++ low_bytes (bytes_in size) n) (k + 1)
one_read size words bytes k word n inside is number left =
    left ∙ ap (λ (ws : List (List ℕ)). one_more bytes (numbers_of size ws)) (next_word words k word inside is)
    ∙ ap (λ (r : Result ℕ Reason). one_more bytes (with_others size r (numbers_of size (drop (k + 1) words)))) (sym number)
    ∙ one_and_more bytes (low_bytes (bytes_in size) n) (numbers_of size (drop (k + 1) words))

one_refused : (size : Size) (words : List (List ℕ)) (bytes : List ℕ) (k : ℕ) (word : List ℕ) (why : Reason) → k < length words → word ≡
    get_or words k [] → Err why ≡ number_of size (written_number word)
    → AreLeft size words bytes k → numbers_of size words ≡ Err why
one_refused size words bytes k word why inside is number left =
    left ∙ ap (λ (ws : List (List ℕ)). one_more bytes (numbers_of size ws)) (next_word words k word inside is)
    ∙ ap (λ (r : Result ℕ Reason). one_more bytes (with_others size r (numbers_of size (drop (k + 1) words)))) (sym number)

-- of words as they are borrowed
module _ (size : Size) (words : List (Bor (List ℕ))) (k : ℕ) (d : Bor (List ℕ)) (inside : k < length words) where
  abbrev texts : List (List ℕ)
  texts = map (λ w. w.now) words

  there : k < length texts
  there = let counted = length-map words (λ (w : Bor (List ℕ)). w.now) in omega (arith, counted, inside)

  at : (get_or words k d).now ≡ get_or texts k []
  at = sym (get_or-map (λ (w : Bor (List ℕ)). w.now) words k d [] inside)

  pub word_read : (bytes more : List ℕ) (count n : ℕ) → Ok n ≡ number_of size (written_number (get_or words k d).now) → AreLeft size texts
      bytes k → count ≡ bytes_in size → more ≡ bytes ++ low_bytes count n → AreLeft size texts more (k + 1)
  word_read bytes more count n number left counted pushed =
      subst (λ (bs : List ℕ). AreLeft size texts bs (k + 1)) (sym (pushed ∙ ap (λ (c : ℕ). bytes ++ low_bytes c n) counted))
      (one_read size texts bytes k (get_or words k d).now n there at number left)

  pub word_refused : (bytes : List ℕ) (why : Reason) → Err why ≡ number_of size (written_number (get_or words k d).now) → AreLeft size texts
      bytes k → numbers_of size texts ≡ Err why
  word_refused bytes why number left = one_refused size texts bytes k (get_or words k d).now why there at number left

pub all_read : (size : Size) (words : List (List ℕ)) (bytes : List ℕ) (k : ℕ) → length words ≤ k → AreLeft size words bytes k → numbers_of size words ≡ Ok bytes
all_read size words bytes k past left =
    left ∙ ap (λ (ws : List (List ℕ)). one_more bytes (numbers_of size ws)) (none_after words k past) ∙ ap Ok (append-nil bytes)
  where
    none_after : (ws : List (List ℕ)) (n : ℕ) → length ws ≤ n → drop n ws ≡ []
    none_after [] zero h = refl
    none_after [] (suc n) h = refl
    none_after (v ∷ vs) zero h = absurd (omega arith)
    none_after (v ∷ vs) (suc n) h = none_after vs n (omega arith)

-- ---- between brackets

last_of : (rest : List ℕ) (x : ℕ) → closed (rest ++ x ∷ []) ≡ (if x == 93 then Some rest else None)
last_of [] x = refl
last_of (b ∷ []) x = by_test (x == 93)
  where
    by_test : (t : Bool) → option_map (λ (r : List ℕ). b ∷ r) (if t then Some [] else None) ≡ (if t then Some (b ∷ []) else None)
    by_test true = refl
    by_test false = refl
last_of (b ∷ c ∷ rest) x = ap (option_map (λ (r : List ℕ). b ∷ r)) (last_of (c ∷ rest) x) ∙ by_test (x == 93)
  where
    by_test : (t : Bool) → option_map (λ (r : List ℕ). b ∷ r) (if t then Some (c ∷ rest) else None) ≡ (if t then Some (b ∷ c ∷ rest) else None)
    by_test true = refl
    by_test false = refl

closed_by : (word rest : List ℕ) (x : ℕ) → IsLastAndRest word x rest → closed word ≡ (if x == 93 then Some rest else None)
closed_by word rest x is = ap closed is.0 ∙ last_of rest x

pub closed_none : (word : List ℕ) → length word ≡ 0 → closed word ≡ None
closed_none [] e = refl
closed_none (b ∷ bs) e = absurd (omega (arith, e))

pub closed_yes : (word rest : List ℕ) (x : ℕ) → IsLastAndRest word x rest → x ≡ 93 → Some rest ≡ closed word
closed_yes word rest x is e =
    let yes : (x == 93) ≡ true = grind (arith, nat_tests) in
    sym (closed_by word rest x is ∙ ap (λ (b : Bool). if b then Some rest else None) yes)

pub closed_no : (word rest : List ℕ) (x : ℕ) → IsLastAndRest word x rest → (x ≡ 93 → ⊥) → None ≡ closed word
closed_no word rest x is e =
    let no : (x == 93) ≡ false = grind (arith, nat_tests) in
    sym (closed_by word rest x is ∙ ap (λ (b : Bool). if b then Some rest else None) no)

-- ---- shapes of arrays

array_fits : (p : Part) (a : ℕ) (o : Option ArrayShape) → IsFit p → o ≡ slice_get p.file.arrays a → IfSome o (IsArrayShape p.file.cpus)
array_fits p a None f e = tt
array_fits p a (Some g) f e = (arrays_in_range p.file.cpus p.file.contents 0 p.file.arrays f.arrays a a g (omega arith) (sym e)).0

pub array_value : (p : Part) (a : ℕ) (o : Option ArrayShape) → IsFit p → o ≡ slice_get p.file.arrays a → IfSome o (λ g. g.value ≤ 65536)
array_value p a o f e = weaker o (array_fits p a o f e)
  where
    weaker : (q : Option ArrayShape) → IfSome q (IsArrayShape p.file.cpus) → IfSome q (λ g. g.value ≤ 65536)
    weaker None is = tt
    weaker (Some g) is = is.value.1

pub array_max : (p : Part) (a : ℕ) (o : Option ArrayShape) → IsFit p → o ≡ slice_get p.file.arrays a → IfSome o (λ g. g.max ≤ 65536)
array_max p a o f e = weaker o (array_fits p a o f e)
  where
    weaker : (q : Option ArrayShape) → IfSome q (IsArrayShape p.file.cpus) → IfSome q (λ g. g.max ≤ 65536)
    weaker None is = tt
    weaker (Some g) is = is.max.1

-- ---- of a map or an array

below : (k m n : ℕ) → m ≡ n → k < m → nat_lt k n ≡ true
below k m n e h = grind (arith, nat_tests)

beyond : (k m n : ℕ) → m ≡ n → m ≤ k → nat_lt k n ≡ false
beyond k m n e h = grind (arith, nat_tests)

pub is_answered : (n : ℕ) (q : Part) (r s : Result State FileError) (a : Result Next FileError) → r ≡ s → OrMemory (λ b. after n q b ≡ r) a
    → OrMemory (λ b. after n q b ≡ s) a
is_answered n q r s a e h = subst (λ (t : Result State FileError). OrMemory (λ b. after n q b ≡ t) a) e h

module _ (n : ℕ) (p : Part) (o : Option ℕ) (k m : ℕ) (found : Some k ≡ o) (maps : m ≡ length p.file.maps) where
  pub put_of_map : (key value : List ℕ) → k < m → pair_added n p k key value (slice_get p.file.maps k) ≡ put_added n p o key value
  put_of_map key value h =
      ap (λ (b : Bool). if b then pair_added n p k key value (slice_get p.file.maps k) else element_added n p (k - length p.file.maps)
      (written_number key) value (slice_get p.file.arrays (k - length p.file.maps))) (sym (below k m (length p.file.maps) maps h))
      ∙ ap (λ (x : Option ℕ). put_added n p x key value) found

  pub put_of_array : (key value : List ℕ) → m ≤ k → element_added n p (k - m) (written_number key) value (slice_get p.file.arrays (k - m)) ≡
      put_added n p o key value
  put_of_array key value h =
      ap (λ (j : ℕ). element_added n p (k - j) (written_number key) value (slice_get p.file.arrays (k - j))) maps
      ∙ ap (λ (b : Bool). if b then pair_added n p k key value (slice_get p.file.maps k) else element_added n p (k - length p.file.maps)
      (written_number key) value (slice_get p.file.arrays (k - length p.file.maps))) (sym (beyond k m (length p.file.maps) maps h))
      ∙ ap (λ (x : Option ℕ). put_added n p x key value) found

  pub numbers_of_map : (key : ℕ) (bytes : List ℕ) → k < m → pair_numbered n p k key bytes (slice_get p.file.maps k) ≡ numbers_put n p o key bytes
  numbers_of_map key bytes h =
      ap (λ (b : Bool). if b then pair_numbered n p k key bytes (slice_get p.file.maps k) else element_numbered n p (k - length p.file.maps)
      key bytes (slice_get p.file.arrays (k - length p.file.maps))) (sym (below k m (length p.file.maps) maps h))
      ∙ ap (λ (x : Option ℕ). numbers_put n p x key bytes) found

  pub numbers_of_array : (key : ℕ) (bytes : List ℕ) → m ≤ k → element_numbered n p (k - m) key bytes (slice_get p.file.arrays (k - m)) ≡
      numbers_put n p o key bytes
  numbers_of_array key bytes h =
      ap (λ (j : ℕ). element_numbered n p (k - j) key bytes (slice_get p.file.arrays (k - j))) maps
      ∙ ap (λ (b : Bool). if b then pair_numbered n p k key bytes (slice_get p.file.maps k) else element_numbered n p
      (k - length p.file.maps) key bytes (slice_get p.file.arrays (k - length p.file.maps))) (sym (beyond k m (length p.file.maps) maps h))
      ∙ ap (λ (x : Option ℕ). numbers_put n p x key bytes) found
