-- Frames and callers, and what they are saved as.
use Rattle.std.proofs.Common.{◌≡◌, ℕ, zero, suc, ◌-◌, ◌+◌, ◌*◌, ◌^◌, ◌<◌, ◌≤◌, List, [], ◌∷◌, ◌++◌, length, take, drop, get_or, refl, sym}
use Rattle.std.proofs.Common.{ap, ◌∙◌, subst, arith, append_assoc, length-append, length-drop, add-one}
use Rattle.std.specs.Prelude.{All, slice_set}
use Rattle.std.specs.List.{flat_map}
use Rattle.std.proofs.Math.Seq.{take-append_seam, drop-append_seam}
use Rattle.std.proofs.lemmas.List.{append-nil, take-append-drop, drop-drop, take_more, take_more_set, length-take-le}
use Rattle.std.proofs.lemmas.List.Concat.{flat_map-append}
use Rattle.std.proofs.lemmas.List.Elements.{All-nil, All-cons, All-head, All-tail, All-take, All-drop, All-append}
use Rattle.bpf_base.specs.Bytes.{modulus, little_endian, low_bytes, part, with_part}
use Rattle.bpf_base.proofs.Numbers.{length-low_bytes, All-low_bytes, little_endian-low_bytes, little_endian-bounded}
use Rattle.bpf_mem.specs.declared.frames.Caller.{Caller}
use Rattle.bpf_mem.specs.Stack.{Stack}
use Rattle.bpf_mem.specs.Saved.{IsWord, word_bytes, words_saved, words_of, frame_saved, caller_saved, frames_saved, IsFrame, IsCaller, IsSavable}
use Rattle.bpf_mem.proofs.WordLemmas.{length-word_bytes, words_prefix}
use Rattle.bpf_mem.proofs.WordReading.{word_back, all_behind, HaveNone}
use Rattle.bpf_mem.proofs.CodeLemmas.{flat_prefix}

-- ---- bytes as words
pub length-words_of : (n : ℕ) (bytes : List ℕ) → length (words_of n bytes) ≡ n
unfolding words_of
length-words_of zero bytes = refl
length-words_of (suc n) bytes = ap suc (length-words_of n (drop 8 bytes))

pub words_more : (n : ℕ) (bytes : List ℕ) → words_of (suc n) bytes ≡ words_of n bytes ++ little_endian (part bytes (8 * n) 8) ∷ []
unfolding words_of
words_more zero bytes = refl
words_more (suc n) bytes =
    let cut : part (drop 8 bytes) (8 * n) 8 ≡ part bytes (8 * suc n) 8 = ap (take 8)
    (drop-drop (8 * n) 8 bytes ∙ ap (λ (k : ℕ). drop k bytes) (let e : 8 + 8 * n ≡ 8 * suc n = omega arith in e)) in
    let first = little_endian (take 8 bytes) in
    ap (λ (l : List ℕ). first ∷ l) (words_more n (drop 8 bytes) ∙ ap (λ (p : List ℕ). words_of n (drop 8 bytes) ++ little_endian p ∷ []) cut)

wide : (bytes : List ℕ) → length bytes ≡ 8 → All (λ b. b < 256) bytes → IsWord (little_endian bytes)
wide bytes size each = subst (λ (n : ℕ). little_endian bytes < modulus n) size (little_endian-bounded bytes each)

pub words_fit : (n : ℕ) (bytes : List ℕ) → length bytes ≡ 8 * n → All (λ b. b < 256) bytes → All IsWord (words_of n bytes)
unfolding words_of
words_fit zero bytes size each = All-nil IsWord
words_fit (suc n) bytes size each =
    let first = wide (take 8 bytes) (length-take-le 8 bytes (omega arith)) (All-take (λ b. b < 256) 8 bytes each) in
    All-cons IsWord (little_endian (take 8 bytes)) (words_of n (drop 8 bytes)) first
    (words_fit n (drop 8 bytes) (omega (arith, length-drop 8 bytes)) (All-drop (λ b. b < 256) 8 bytes each))

-- bytes are those of their words
pub whole_words : (n : ℕ) (bytes : List ℕ) → length bytes ≡ 8 * n → All (λ b. b < 256) bytes → flat_map word_bytes (words_of n bytes) ≡ bytes
unfolding words_of
whole_words zero [] size each = refl
whole_words zero (b ∷ bytes) size each = absurd (omega arith)
whole_words (suc n) bytes size each =
    let first : word_bytes (little_endian (take 8 bytes)) ≡ take 8 bytes = word_back (take 8 bytes) (length-take-le 8 bytes (omega arith))
    (All-take (λ b. b < 256) 8 bytes each) in
    let behind : flat_map word_bytes (words_of n (drop 8 bytes)) ≡ drop 8 bytes = whole_words n (drop 8 bytes)
    (omega (arith, length-drop 8 bytes)) (All-drop (λ b. b < 256) 8 bytes each) in
    ap (λ (l : List ℕ). l ++ flat_map word_bytes (words_of n (drop 8 bytes))) first ∙ (ap (λ (l : List ℕ). take 8 bytes ++ l) behind ∙ take-append-drop 8 bytes)

word_read : (x : ℕ) → IsWord x → little_endian (word_bytes x) ≡ x
unfolding word_bytes
word_read x h = little_endian-low_bytes 8 x h

-- words are those of their bytes
pub words_back : (words : List ℕ) → All IsWord words → words_of (length words) (flat_map word_bytes words) ≡ words
unfolding words_of
words_back [] h = refl
words_back (x ∷ words) h =
    let more = flat_map word_bytes words in
    let front : take 8 (word_bytes x ++ more) ≡ word_bytes x = ap (λ (n : ℕ). take n (word_bytes x ++ more)) (sym (length-word_bytes x)) ∙
    take-append_seam (word_bytes x) more in
    let behind : drop 8 (word_bytes x ++ more) ≡ more = ap (λ (n : ℕ). drop n (word_bytes x ++ more)) (sym (length-word_bytes x)) ∙
    drop-append_seam (word_bytes x) more in
    let first : little_endian (take 8 (word_bytes x ++ more)) ≡ x = ap little_endian front ∙ word_read x (All-head IsWord x words h) in
    ap (λ (y : ℕ). y ∷ words_of (length words) (drop 8 (word_bytes x ++ more))) first ∙ ap (λ (l : List ℕ). x ∷ l)
    (ap (words_of (length words)) behind ∙ words_back words (All-tail IsWord x words h))

-- ---- loops over the words of a frame
pub word_got : (frame words : List ℕ) (i x : ℕ) → i < length words → x ≡ little_endian (part frame (8 * i) 8) → take i words ≡ words_of i frame
    → take (i + 1) (slice_set words i x) ≡ words_of (i + 1) frame
word_got frame words i x inside is got =
    take_more_set words i x inside ∙ (ap (λ (l : List ℕ). l ++ x ∷ []) got ∙
    (ap (λ (y : ℕ). words_of i frame ++ y ∷ []) is ∙ (sym (words_more i frame) ∙ ap (λ (n : ℕ). words_of n frame) (sym (add-one i)))))

pub word_set : (frame words : List ℕ) (i x : ℕ) → i < length words → 8 * i + 8 ≤ length frame → x ≡ get_or words i 0 → take (8 * i) frame ≡
    flat_map word_bytes (take i words)
    → take (8 * (i + 1)) (with_part frame (8 * i) (low_bytes 8 x)) ≡ flat_map word_bytes (take (i + 1) words)
unfolding word_bytes
word_set frame words i x inside fits is set =
    let front = take (8 * i) frame ++ low_bytes 8 x in
    let rest = drop (8 * i + length (low_bytes 8 x)) frame in
    let size : 8 * (i + 1) ≡ length front = omega (
      arith,
      length-append (take (8 * i) frame) (low_bytes 8 x),
      length-take-le (8 * i) frame
          (omega arith),
      length-low_bytes 8 x,
    ) in
    let one : flat_map word_bytes (take i words ++ x ∷ []) ≡ flat_map word_bytes (take i words) ++ word_bytes x = flat_map-append word_bytes
    (take i words) (x ∷ []) ∙ ap (λ (l : List ℕ). flat_map word_bytes (take i words) ++ l) (append-nil (word_bytes x)) in
    ap (λ (n : ℕ). take n (front ++ rest)) size ∙ (take-append_seam front rest ∙ (ap (λ (l : List ℕ). l ++ low_bytes 8 x) set
    ∙ (sym one ∙ ap (flat_map word_bytes) (ap (λ (y : ℕ). take i words ++ y ∷ []) is ∙ sym (take_more words i 0 inside)))))

-- ---- frames
pub frame_told : (x y rest more : List ℕ) → IsFrame x → IsFrame y → frame_saved x ++ rest ≡ frame_saved y ++ more → (x ≡ y) × (rest ≡ more)
unfolding frame_saved
frame_told x y rest more h k e =
    let same = words_prefix 0 (words_of 64 x) (words_of 64 y) rest more (length-words_of 64 x ∙ sym (length-words_of 64 y))
    (words_fit 64 x h.size h.bytes) (words_fit 64 y k.size k.bytes) e in
    (sym (whole_words 64 x h.size h.bytes) ∙ (ap (flat_map word_bytes) same.0 ∙ whole_words 64 y k.size k.bytes), same.1)

pub frame_read : (bytes words frame rest : List ℕ) → length words ≡ 64 → All IsWord words → frame ≡ flat_map word_bytes words → bytes ≡
    words_saved 0 words ++ rest → bytes ≡ frame_saved frame ++ rest
unfolding frame_saved
frame_read bytes words frame rest size fit is e =
    let same : words_of 64 frame ≡ words = ap (words_of 64) is ∙ (ap (λ (n : ℕ). words_of n (flat_map word_bytes words)) (sym size) ∙ words_back words fit) in
    e ∙ ap (λ (l : List ℕ). words_saved 0 l ++ rest) (sym same)

flat_long : (words : List ℕ) → length (flat_map word_bytes words) ≡ 8 * length words
flat_long [] = refl
flat_long (x ∷ words) = omega (arith, length-append (word_bytes x) (flat_map word_bytes words), length-word_bytes x, flat_long words)

small_bytes : (x : ℕ) → All (λ b. b < 256) (word_bytes x)
unfolding word_bytes
small_bytes x = All-low_bytes 8 x

flat_bytes : (words : List ℕ) → All (λ b. b < 256) (flat_map word_bytes words)
flat_bytes [] = All-nil (λ b. b < 256)
flat_bytes (x ∷ words) = All-append (λ b. b < 256) (word_bytes x) (flat_map word_bytes words) (small_bytes x) (flat_bytes words)

pub frame_is : (words frame : List ℕ) → length words ≡ 64 → frame ≡ flat_map word_bytes words → IsFrame frame
frame_is words frame size is =
    let long = flat_long words in
    let n : length (flat_map word_bytes words) ≡ 512 = omega arith in
    subst IsFrame (sym is) (record { size = n; bytes = flat_bytes words })

pub frame_none : (bytes : List ℕ) → HaveNone bytes 64 → (other more : List ℕ) → IsFrame other → bytes ≡ frame_saved other ++ more → ⊥
unfolding frame_saved
frame_none bytes none other more h e = none (words_of 64 other) more (length-words_of 64 other) (words_fit 64 other h.size h.bytes) e

-- ---- callers
pub no_caller : Caller
no_caller = record { return_pc = 0; saved = [] }

caller_fits : (x : Caller) → IsCaller x → All IsWord (x.return_pc ∷ x.saved)
caller_fits x h = let pc = h.pc in All-cons IsWord x.return_pc x.saved (omega arith) h.words

five : (x : Caller) → IsCaller x → length (x.return_pc ∷ x.saved) ≡ 5
five x h = ap suc h.four

pub caller_told : (x y : Caller) (rest more : List ℕ) → IsCaller x → IsCaller y → caller_saved x ++ rest ≡ caller_saved y ++ more → (x ≡ y) × (rest ≡ more)
caller_told x y rest more h k e =
    let same = words_prefix 0 (x.return_pc ∷ x.saved) (y.return_pc ∷ y.saved) rest more (five x h ∙ sym (five y k)) (caller_fits x h) (caller_fits y k) e in
    let both : x.return_pc ∷ x.saved ≡ y.return_pc ∷ y.saved = same.0 in
    let pc : x.return_pc ≡ y.return_pc = cc in
    let saved : x.saved ≡ y.saved = cc in
    (λ j. record { return_pc = pc j; saved = saved j }, same.1)

-- the five words that were read
pub five_words : (l : List ℕ) → length l ≡ 5 → l ≡ get_or l 0 0 ∷ get_or l 1 0 ∷ get_or l 2 0 ∷ get_or l 3 0 ∷ get_or l 4 0 ∷ []
five_words [] e = absurd (omega arith)
five_words (a ∷ []) e = absurd (omega arith)
five_words (a ∷ b ∷ []) e = absurd (omega arith)
five_words (a ∷ b ∷ c ∷ []) e = absurd (omega arith)
five_words (a ∷ b ∷ c ∷ d ∷ []) e = absurd (omega arith)
five_words (a ∷ b ∷ c ∷ d ∷ f ∷ []) e = refl
five_words (a ∷ b ∷ c ∷ d ∷ f ∷ g ∷ l) e = absurd (omega arith)

pub four_words : (l : List ℕ) → length l ≡ 4 → get_or l 0 0 ∷ get_or l 1 0 ∷ get_or l 2 0 ∷ get_or l 3 0 ∷ [] ≡ l
four_words [] e = absurd (omega arith)
four_words (a ∷ []) e = absurd (omega arith)
four_words (a ∷ b ∷ []) e = absurd (omega arith)
four_words (a ∷ b ∷ c ∷ []) e = absurd (omega arith)
four_words (a ∷ b ∷ c ∷ d ∷ []) e = refl
four_words (a ∷ b ∷ c ∷ d ∷ f ∷ l) e = absurd (omega arith)

-- the caller that they are
abbrev pub caller_of : List ℕ → Caller
caller_of l = record { return_pc = get_or l 0 0; saved = get_or l 1 0 ∷ get_or l 2 0 ∷ get_or l 3 0 ∷ get_or l 4 0 ∷ [] }

pub caller_is : (l : List ℕ) → length l ≡ 5 → All IsWord l → get_or l 0 0 < 2 ^ 32 → IsCaller (caller_of l)
caller_is l size fit near =
    let five = subst (λ (k : List ℕ). All IsWord k) (five_words l size) fit in
    record {
      pc = near;
      four = refl;
      words = All-tail IsWord (get_or l 0 0) (get_or l 1 0 ∷ get_or l 2 0 ∷ get_or l 3 0 ∷ get_or l 4 0 ∷ []) five;
    }

pub caller_read : (bytes words rest : List ℕ) → length words ≡ 5 → bytes ≡ words_saved 0 words ++ rest → bytes ≡ caller_saved (caller_of words) ++ rest
caller_read bytes words rest size read = read ∙ ap (λ (l : List ℕ). words_saved 0 l ++ rest) (five_words words size)

pub caller_none : (bytes : List ℕ) → HaveNone bytes 5 → (other : Caller) (more : List ℕ) → IsCaller other → bytes ≡ caller_saved other ++ more → ⊥
caller_none bytes none other more h e = none (other.return_pc ∷ other.saved) more (five other h) (caller_fits other h) e

-- the first word is too large for a pc
pub caller_far : (bytes words rest : List ℕ) → length words ≡ 5 → All IsWord words → bytes ≡ words_saved 0 words ++ rest → 2 ^ 32 ≤ get_or words 0 0
    → (other : Caller) (more : List ℕ) → IsCaller other → bytes ≡ caller_saved other ++ more → ⊥
caller_far bytes words rest size fit read far other more h e =
    let same = words_prefix 0 words (other.return_pc ∷ other.saved) rest more (size ∙ sym (five other h)) fit (caller_fits other h) (sym read ∙ e) in
    let first : get_or words 0 0 ≡ other.return_pc = ap (λ (l : List ℕ). get_or l 0 0) same.0 in
    let pc = h.pc in
    omega arith

-- ---- all of it
pub frames_told : (x y : Stack) (rest more : List ℕ) → IsSavable x → IsSavable y → frames_saved x ++ rest ≡ frames_saved y ++ more → (x ≡ y) × (rest ≡ more)
frames_told x y rest more h k e =
    let xs = flat_map frame_saved x.live in
    let ys = flat_map frame_saved y.live in
    let behind : length x.live ∷ (xs ++ (flat_map caller_saved x.callers ++ rest)) ≡ length y.live ∷ (ys ++ (flat_map caller_saved y.callers ++ more)) =
    sym (append_assoc (length x.live ∷ xs) (flat_map caller_saved x.callers) rest) ∙
    (e ∙ append_assoc (length y.live ∷ ys) (flat_map caller_saved y.callers) more) in
    let count : length x.live ≡ length y.live = cc in
    let frames : xs ++ (flat_map caller_saved x.callers ++ rest) ≡ ys ++ (flat_map caller_saved y.callers ++ more) = cc in
    let cut = flat_prefix IsFrame frame_saved [] frame_told x.live y.live (flat_map caller_saved x.callers ++ rest)
    (flat_map caller_saved y.callers ++ more) count h.frames k.frames frames in
    let p = h.is_stack in
    let q = k.is_stack in
    let few : length x.callers ≡ length y.callers = omega (arith, p.paired, q.paired) in
    let same = flat_prefix IsCaller caller_saved no_caller caller_told x.callers y.callers rest more few h.callers k.callers cut.1 in
    (λ j. record { live = cut.0 j; callers = same.0 j }, same.1)

-- ---- reading all of it
pub first_and_rest : (bytes : List ℕ) → 0 < length bytes → bytes ≡ get_or bytes 0 0 ∷ take (length bytes - 1) (drop 1 bytes)
first_and_rest [] some = absurd (omega arith)
first_and_rest (b ∷ bytes) some = ap (λ (l : List ℕ). b ∷ l) (sym (all_behind 1 (b ∷ bytes)))

module _ (bytes rest : List ℕ) (live : ℕ) (begins : bytes ≡ live ∷ rest) where
  parts : (other : Stack) (more : List ℕ) → bytes ≡ frames_saved other ++ more
      → (live ≡ length other.live) × (rest ≡ flat_map frame_saved other.live ++ (flat_map caller_saved other.callers ++ more))
  parts other more e =
      let whole : live ∷ rest ≡ length other.live ∷ (flat_map frame_saved other.live ++ (flat_map caller_saved other.callers ++ more)) =
      sym begins ∙ (e ∙ append_assoc (length other.live ∷ flat_map frame_saved other.live) (flat_map caller_saved other.callers) more) in
      let count : live ≡ length other.live = cc in
      let behind : rest ≡ flat_map frame_saved other.live ++ (flat_map caller_saved other.callers ++ more) = cc in
      (count, behind)

  module _ (frames : List (List ℕ)) (behind : List ℕ) (size : length frames ≡ live) (each : All IsFrame frames)
      (read : rest ≡ flat_map frame_saved frames ++ behind) where
    pub no_callers : ((others : List Caller) (more : List ℕ) → length others ≡ live - 1 → All IsCaller others → behind ≡ flat_map
        caller_saved others ++ more → ⊥)
        → (other : Stack) (more : List ℕ) → IsSavable other → bytes ≡ frames_saved other ++ more → ⊥
    no_callers none other more h e =
        let p = parts other more e in
        let count = p.0 in
        let paired = h.is_stack.paired in
        let cut = flat_prefix IsFrame frame_saved [] frame_told frames other.live behind (flat_map caller_saved other.callers ++ more)
        (size ∙ count) each h.frames (sym read ∙ p.1) in
        none other.callers more (omega arith) h.callers cut.1
