-- What waits is determined by its bytes.
use Rattle.std.proofs.Common.{◌≡◌, ◌∙◌, ℕ, ◌+◌, ◌<◌, List, [], ◌∷◌, ◌++◌, Option, Some, None, Vec, Global, append_assoc}
use Rattle.std.proofs.Common.{get_or, length, map, take, refl, sym, ap, arith}
use Rattle.std.specs.Prelude.{All, IfNone, slice_index_or}
use Rattle.std.proofs.lemmas.List.{flat_map_more, map_more}
use Rattle.std.proofs.lemmas.List.Elements.{All-cons, All-nil}
use Rattle.std.specs.List.{flat_map, AllByRecursion}
use Rattle.bpf_shared.specs.declared.events.Size.{Size}
use Rattle.bpf_shared.specs.declared.events.Size.TheVariants.{Byte, Half, Word, Double}
use Rattle.bpf_shared.specs.Access.{bytes_in}
use Rattle.bpf_mem.specs.Saved.{IsWord, words_saved}
use Rattle.bpf_mem.proofs.WordLemmas.{words_prefix}
use Rattle.bpf_buffering.specs.declared.waiting.Stored.{Stored}
use Rattle.bpf_buffer_expand.specs.Saved.{count_saved, stored_saved, buffer_saved, buffers_saved, IsSavable, AreSavable}
use Rattle.bpf_buffering.proofs.Waits.{items_of}
use Rattle.bpf_buffer_expand.proofs.Each.{all_told}

pub size_is_word : (z : Size) → IsWord (bytes_in z)
size_is_word Byte = omega arith
size_is_word Half = omega arith
size_is_word Word = omega arith
size_is_word Double = omega arith

same_size : (x y : Size) → bytes_in x ≡ bytes_in y → x ≡ y
same_size Byte Byte e = refl
same_size Byte Half e = absurd (omega (arith, e))
same_size Byte Word e = absurd (omega (arith, e))
same_size Byte Double e = absurd (omega (arith, e))
same_size Half Byte e = absurd (omega (arith, e))
same_size Half Half e = refl
same_size Half Word e = absurd (omega (arith, e))
same_size Half Double e = absurd (omega (arith, e))
same_size Word Byte e = absurd (omega (arith, e))
same_size Word Half e = absurd (omega (arith, e))
same_size Word Word e = refl
same_size Word Double e = absurd (omega (arith, e))
same_size Double Byte e = absurd (omega (arith, e))
same_size Double Half e = absurd (omega (arith, e))
same_size Double Word e = absurd (omega (arith, e))
same_size Double Double e = refl

pub one_word : (n : ℕ) → IsWord n → All IsWord (n ∷ [])
one_word n is = All-cons IsWord n [] is (All-nil IsWord)

pub three_words : (a b c : ℕ) → IsWord a → IsWord b → IsWord c → All IsWord (a ∷ b ∷ c ∷ [])
three_words a b c x y z = All-cons IsWord a (b ∷ c ∷ []) x (All-cons IsWord b (c ∷ []) y (one_word c z))

pub count_told : (n k : ℕ) (r s : List ℕ) → IsWord n → IsWord k → count_saved n ++ r ≡ count_saved k ++ s → (n ≡ k) × (r ≡ s)
count_told n k r s v w e =
    let t = words_prefix 0 (n ∷ []) (k ∷ []) r s refl (one_word n v) (one_word k w) e in
    let lists = t.0 in
    ((let same : n ≡ k = cc in same), t.1)

abbrev pub stored_of : ℕ → Size → ℕ → Stored
stored_of at size word = record { at = at; size = size; word = word }

pub stored_told : (e f : Stored) (r s : List ℕ) → IsSavable e → IsSavable f → stored_saved e ++ r ≡ stored_saved f ++ s → (e ≡ f) × (r ≡ s)
stored_told e f r s v w is =
    let t = words_prefix 0 (e.at ∷ bytes_in e.size ∷ e.word ∷ []) (f.at ∷ bytes_in f.size ∷ f.word ∷ []) r s refl
    (three_words e.at (bytes_in e.size) e.word v.0 (size_is_word e.size) v.1)
    (three_words f.at (bytes_in f.size) f.word w.0 (size_is_word f.size) w.1) is in
    let lists = t.0 in
    let at : e.at ≡ f.at = cc in
    let size : bytes_in e.size ≡ bytes_in f.size = cc in
    let word : e.word ≡ f.word = cc in (
      ap (λ (n : ℕ). stored_of n e.size e.word) at
          ∙ (ap (λ (z : Size). stored_of f.at z e.word) (same_size e.size f.size size) ∙ ap (λ (n : ℕ). stored_of f.at f.size n) word),
      t.1,
    )

pub buffer_told : (es fs : List Stored) (r s : List ℕ) → AreSavable es → AreSavable fs → buffer_saved es ++ r ≡ buffer_saved fs ++ s → (es ≡ fs) × (r ≡ s)
buffer_told es fs r s v w e =
    let is = sym (append_assoc (count_saved (length es)) (flat_map stored_saved es) r)
    ∙ (e ∙ append_assoc (count_saved (length fs)) (flat_map stored_saved fs) s) in
    let count = count_told (length es) (length fs) (flat_map stored_saved es ++ r) (flat_map stored_saved fs ++ s) v.0 w.0 is in
    all_told stored_saved IsSavable stored_told es fs r s count.0 v.1 w.1 count.1

pub buffers_told : (bs ds : List (List Stored)) (r s : List ℕ) → length bs ≡ length ds → AllByRecursion AreSavable bs → AllByRecursion
    AreSavable ds → buffers_saved bs ++ r ≡
    buffers_saved ds ++ s → (bs ≡ ds) × (r ≡ s)
buffers_told bs ds r s n v w e = all_told buffer_saved AreSavable buffer_told bs ds r s n v w e

-- ---- words that are read
pub one_read : (words : List ℕ) → length words ≡ 1 → words ≡ slice_index_or words 0 0 ∷ []
one_read [] n = absurd (omega (arith, n))
one_read (a ∷ []) n = refl
one_read (a ∷ b ∷ more) n = absurd (omega (arith, n))

pub three_read : (words : List ℕ) → length words ≡ 3 → words ≡ slice_index_or words 0 0 ∷ slice_index_or words 1 0 ∷ slice_index_or words 2 0 ∷ []
three_read [] n = absurd (omega (arith, n))
three_read (a ∷ []) n = absurd (omega (arith, n))
three_read (a ∷ b ∷ []) n = absurd (omega (arith, n))
three_read (a ∷ b ∷ c ∷ []) n = refl
three_read (a ∷ b ∷ c ∷ d ∷ more) n = absurd (omega (arith, n))

-- ---- words that are there, and none
pub count_read : (bytes words rest : List ℕ) → length words ≡ 1 → bytes ≡ words_saved 0 words ++ rest → bytes ≡ count_saved (slice_index_or words 0 0) ++ rest
count_read bytes words rest n read = read ∙ ap (λ (l : List ℕ). words_saved 0 l ++ rest) (one_read words n)

pub stored_read : (bytes words rest : List ℕ) (z : Size) → length words ≡ 3 → bytes ≡ words_saved 0 words ++ rest → bytes_in z ≡ slice_index_or words 1 0
    → bytes ≡ stored_saved (stored_of (slice_index_or words 0 0) z (slice_index_or words 2 0)) ++ rest
stored_read bytes words rest z n read size = read ∙ (ap (λ (l : List ℕ). words_saved 0 l ++ rest) (three_read words n)
    ∙ ap (λ (k : ℕ). words_saved 0 (slice_index_or words 0 0 ∷ k ∷ slice_index_or words 2 0 ∷ []) ++ rest) (sym size))

-- the number of bytes is none of a store
pub no_size : (bytes words rest : List ℕ) → length words ≡ 3 → All IsWord words → bytes ≡ words_saved 0 words ++ rest
    → ((z : Size) → bytes_in z ≡ slice_index_or words 1 0 → ⊥) → (e : Stored) (more : List ℕ) → IsSavable e → bytes ≡ stored_saved e ++ more → ⊥
no_size bytes words rest n fit read none e more v is =
    let t = words_prefix 0 words (e.at ∷ bytes_in e.size ∷ e.word ∷ []) rest more n fit
    (three_words e.at (bytes_in e.size) e.word v.0 (size_is_word e.size) v.1) (sym read ∙ is) in
    none e.size (ap (λ (l : List ℕ). slice_index_or l 1 0) (sym t.0))

-- ---- buffers of a CPU
pub no_buffer : (bytes rest : List ℕ) (count : ℕ) → IsWord count → bytes ≡ count_saved count ++ rest
    → ((es : List Stored) (more : List ℕ) → length es ≡ count → AllByRecursion IsSavable es → rest ≡ flat_map stored_saved es ++ more → ⊥)
    → (es : List Stored) (more : List ℕ) → AreSavable es → bytes ≡ buffer_saved es ++ more → ⊥
no_buffer bytes rest count word read none es more v is =
    let t = count_told count (length es) rest (flat_map stored_saved es ++ more) word v.0
    (sym read ∙ (is ∙ append_assoc (count_saved (length es)) (flat_map stored_saved es) more)) in
    none es more (sym t.0) v.1 t.1

pub buffer_read : (bytes rest more : List ℕ) (count : ℕ) (es : List Stored) → bytes ≡ count_saved count ++ rest → length es ≡ count
    → rest ≡ flat_map stored_saved es ++ more → bytes ≡ buffer_saved es ++ more
buffer_read bytes rest more count es read n is =
    read ∙ (ap (λ (l : List ℕ). count_saved count ++ l) is ∙ (ap (λ (k : ℕ). count_saved k ++ (flat_map stored_saved es ++ more)) (sym n)
    ∙ sym (append_assoc (count_saved (length es)) (flat_map stored_saved es) more)))

-- ---- buffers that are saved
pub items_more : (bs : List (Vec Stored Global)) (i : ℕ) (b : Vec Stored Global) → i < length bs → b ≡ get_or bs i b
    → map items_of (take (i + 1) bs) ≡ map items_of (take i bs) ++ items_of b ∷ []
items_more bs i b within at =
    map_more items_of bs i b within ∙ ap (λ (l : List Stored). map items_of (take i bs) ++ l ∷ []) (ap items_of (sym at))

pub buffers_more : (before mid out : List ℕ) (bs : List (Vec Stored Global)) (i : ℕ) (b : Vec Stored Global) → i < length bs → b ≡ get_or bs i b
    → mid ≡ before ++ buffers_saved (map items_of (take i bs)) → out ≡ mid ++ buffer_saved (items_of b)
    → out ≡ before ++ buffers_saved (map items_of (take (i + 1) bs))
buffers_more before mid out bs i b within at so_far more =
    more ∙ (ap (λ (l : List ℕ). l ++ buffer_saved (items_of b)) so_far
    ∙ (flat_map_more buffer_saved before (map items_of (take i bs)) (items_of b)
    ∙ ap (λ (l : List (List Stored)). before ++ buffers_saved l) (sym (items_more bs i b within at))))

pub no_buffer_at : {X : Type 0} (o : Option X) (bytes rest : List ℕ) (count : ℕ) → IsWord count → bytes ≡ count_saved count ++ rest
    → IfNone o ((es : List Stored) (more : List ℕ) → length es ≡ count → AllByRecursion IsSavable es → rest ≡ flat_map stored_saved es ++ more → ⊥)
    → IfNone o ((es : List Stored) (more : List ℕ) → AreSavable es → bytes ≡ buffer_saved es ++ more → ⊥)
no_buffer_at (Some x) bytes rest count word read none = tt
no_buffer_at None bytes rest count word read none = no_buffer bytes rest count word read none
