-- Where each word of the store is.
use Rattle.std.specs.Prelude.{ℕ, zero, suc, ◌+◌, ◌*◌, ◌/◌, ◌%◌, ◌-◌, nat_lt, Bool, true, false, ◌&&◌, List, [], ◌∷◌, ◌==◌, if◌then◌else◌}
use Rattle.std.specs.Prelude.{length, slice_index, slice_index_or}
use Rattle.bpf_shared.specs.declared.shapes.ArrayShape.{ArrayShape}
use Rattle.bpf_shared.specs.declared.shapes.MapShape.{MapShape}
use Rattle.bpf_shared.specs.Shape.{Shape, elements, copies, copy_stride}
use Rattle.hop_layout.specs.declared.place.Place.{Place}
use Rattle.hop_layout.specs.declared.place.Place.TheVariants.{RunCount, KeyCount, FreeBits, Stamp, Head, Hop, Slot, Link, KeyWord, ValueWord, FixedWord}

-- ---- layouts: one word, or n layouts after each other
pub data Layout : Type 0 where
  Word : Layout
  Group : ℕ → (ℕ → Layout) → Layout

-- f 0 + .. + f (n - 1)
abbrev pub sum_below : ℕ → (ℕ → ℕ) → ℕ
sum_below zero f = 0
sum_below (suc n) f = sum_below n f + f n

abbrev pub layout_size : Layout → ℕ
layout_size Word = 1
layout_size (Group n f) = sum_below n (λ i. layout_size (f i))

-- the word at the end of a path: which member of the group, which of that member's members, and so
-- on
abbrev pub word_at_path : Layout → List ℕ → ℕ
word_at_path Word path = 0
word_at_path (Group n f) [] = 0
word_at_path (Group n f) (i ∷ path) = sum_below i (λ j. layout_size (f j)) + word_at_path (f i) path

abbrev pub is_path : Layout → List ℕ → Bool
is_path Word [] = true
is_path Word (i ∷ path) = false
is_path (Group n f) [] = false
is_path (Group n f) (i ∷ path) = nat_lt i n && is_path (f i) path

-- the member of this number
abbrev pub pick : List Layout → ℕ → Layout
pick [] i = Word
pick (l ∷ ls) zero = l
pick (l ∷ ls) (suc i) = pick ls i

abbrev pub several : List Layout → Layout
several ls = Group (length ls) (pick ls)

abbrev pub block : ℕ → Layout
block n = Group n (λ i. Word)

-- ---- the store's layout
-- the number of words for n bytes
abbrev pub words_for : ℕ → ℕ
words_for n = (n + 7) / 8

abbrev pub free_words : MapShape → ℕ
free_words g = (elements g + 63) / 64

-- the least d with max ≤ 64 * 2 ^ d, for a max of up to 65,536
unfoldable pub depth_from : ℕ → ℕ → ℕ → ℕ
depth_from zero room max = 0
depth_from (suc n) room max = if nat_lt room max then 1 + depth_from n (2 * room) max else 0

abbrev pub depth : MapShape → ℕ
depth g = depth_from 10 64 g.max

abbrev pub power : ℕ → ℕ
power zero = 1
power (suc n) = 2 * power n

abbrev pub segments : MapShape → ℕ
segments g = power (depth g)

-- the depth of each segment as made
abbrev pub first_depth : MapShape → ℕ
first_depth g = if g.grow then 0 else depth g

-- how many versions splits alone can take a segment on
abbrev pub gained : MapShape → ℕ
gained g = if g.grow then depth g else 0

-- what is left of a line of eight words (64 bytes) after n words
abbrev pub line_rest : ℕ → ℕ
line_rest n = (8 - n % 8) % 8

-- a word with a line to itself, so that CPUs that write it don't spoil the line of another
abbrev pub line : Layout
line = block 8

-- stamp, head, and of each bucket hop word and slot word side by side
abbrev pub segment_layout : Layout
segment_layout = several (Word ∷ Word ∷ Group 64 (λ b. block 2) ∷ [])

-- the words of a map before its last line is filled up: the free bits fill up theirs, so that each
-- pair of hop and slot lies in one line
abbrev pub map_words : MapShape → ℕ
map_words g = 130 * segments g + elements g * (1 + words_for g.key + words_for g.value)

abbrev pub map_layout : MapShape → Layout
map_layout g = several (line
    ∷ block (free_words g)
    ∷ block (line_rest (free_words g))
    ∷ Group (segments g) (λ s. segment_layout)
    ∷ block (elements g)
    ∷ Group (elements g) (λ e. block (words_for g.key))
    ∷ Group (elements g) (λ e. block (words_for g.value))
    ∷ block (line_rest (map_words g))
    ∷ [])

abbrev pub no_map : MapShape
no_map = record { key = 0; value = 0; max = 0; spare = 0; mask = 0; grow = false }

abbrev pub map_shape : Shape → ℕ → MapShape
map_shape h m = slice_index_or h.maps m no_map

abbrev pub no_array : ArrayShape
no_array = record { value = 0; max = 0; per_cpu = false; frozen = false }

abbrev pub array_shape : Shape → ℕ → ArrayShape
array_shape h a = slice_index_or h.arrays a no_array

-- the words of an array's values, those of one CPU after those of another: each CPU's begin at a
-- line of their own
abbrev pub array_words : Shape → ℕ → ℕ
array_words h a =
    copies h.cpus (array_shape h a) * copy_stride (array_shape h a) / 8

abbrev pub layout : Shape → Layout
layout h = several (Group h.cpus (λ c. line)
    ∷ Group (length h.maps) (λ m. map_layout (map_shape h m))
    ∷ Group (length h.arrays) (λ a. block (array_words h a))
    ∷ [])

abbrev pub path : Place → List ℕ
path (RunCount c) = 0 ∷ c ∷ 0 ∷ []
path (KeyCount m) = 1 ∷ m ∷ 0 ∷ 0 ∷ []
path (FreeBits m i) = 1 ∷ m ∷ 1 ∷ i ∷ []
path (Stamp m s) = 1 ∷ m ∷ 3 ∷ s ∷ 0 ∷ []
path (Head m s) = 1 ∷ m ∷ 3 ∷ s ∷ 1 ∷ []
path (Hop m s b) = 1 ∷ m ∷ 3 ∷ s ∷ 2 ∷ b ∷ 0 ∷ []
path (Slot m s b) = 1 ∷ m ∷ 3 ∷ s ∷ 2 ∷ b ∷ 1 ∷ []
path (Link m e) = 1 ∷ m ∷ 4 ∷ e ∷ []
path (KeyWord m e k) = 1 ∷ m ∷ 5 ∷ e ∷ k ∷ []
path (ValueWord m e k) = 1 ∷ m ∷ 6 ∷ e ∷ k ∷ []
path (FixedWord a k) = 2 ∷ a ∷ k ∷ []

-- where the word of a place is. A place of the shape has its word to itself
abbrev pub at : Shape → Place → ℕ
at h p = word_at_path (layout h) (path p)

abbrev pub is_place : Shape → Place → Bool
is_place h p = is_path (layout h) (path p)

abbrev pub size : Shape → ℕ
size h = layout_size (layout h)

-- the number in the word of a place; 0 for a place that the shape hasn't
abbrev pub mem : Shape → List ℕ → Place → ℕ
mem h words p = if is_place h p then slice_index words (at h p) else 0

-- one place for another
abbrev pub same_place : Place → Place → Bool
same_place (RunCount c) (RunCount d) = c == d
same_place (KeyCount m) (KeyCount n) = m == n
same_place (FreeBits m i) (FreeBits n j) = (m == n) && (i == j)
same_place (Stamp m s) (Stamp n t) = (m == n) && (s == t)
same_place (Head m s) (Head n t) = (m == n) && (s == t)
same_place (Hop m s b) (Hop n t d) = (m == n) && (s == t) && (b == d)
same_place (Slot m s b) (Slot n t d) = (m == n) && (s == t) && (b == d)
same_place (Link m e) (Link n f) = (m == n) && (e == f)
same_place (KeyWord m e k) (KeyWord n f l) = (m == n) && (e == f) && (k == l)
same_place (ValueWord m e k) (ValueWord n f l) = (m == n) && (e == f) && (k == l)
same_place (FixedWord a k) (FixedWord b l) = (a == b) && (k == l)
same_place p q = false

-- the words with n at the place p
abbrev pub put_at : (Place → ℕ) → Place → ℕ → Place → ℕ
put_at w p n = λ q. if same_place q p then n else w q
