-- Words and what they are saved as.
use Rattle.std.proofs.Common.{◌≡◌, ℕ, zero, suc, ◌<◌, ◌≤◌, List, [], ◌∷◌, ◌++◌, length, take, drop, get_or, refl, sym, ap, subst, ◌∙◌}
use Rattle.std.proofs.Common.{arith, append_assoc, length-append, drop-cons, length-set}
use Rattle.std.specs.Prelude.{All, slice_set}
use Rattle.std.proofs.Math.Seq.{take-suc, take-suc-set}
use Rattle.std.proofs.lemmas.List.{append-nil, take_all, drop_all}
use Rattle.std.proofs.lemmas.List.Elements.{All-nil, All-head, All-tail, All-push, All-get_or}
use Rattle.bpf_base.specs.Bytes.{little_endian}
use Rattle.bpf_base.proofs.Numbers.{length-low_bytes, little_endian-low_bytes}
use Rattle.bpf_base.proofs.Lists.{same_fronts}
use Rattle.bpf_mem.specs.Saved.{IsWord, word_bytes, words_saved}

pub length-word_bytes : (x : ℕ) → length (word_bytes x) ≡ 8
unfolding word_bytes
length-word_bytes x = length-low_bytes 8 x

-- a word's bytes determine it
pub same_word : (x y : ℕ) → IsWord x → IsWord y → word_bytes x ≡ word_bytes y → x ≡ y
unfolding word_bytes
same_word x y h k e = sym (little_endian-low_bytes 8 x h) ∙ (ap little_endian e ∙ little_endian-low_bytes 8 y k)

pub saved_some : (past x : ℕ) (words : List ℕ) → 0 < x → words_saved past (x ∷ words) ≡ past ∷ word_bytes x ++ words_saved 0 words
saved_some past zero words h = absurd (omega arith)
saved_some past (suc x) words h = refl

-- what comes first is at least the number of zeros
least : (past : ℕ) (words rest : List ℕ) (run : ℕ) (behind : List ℕ) → run ∷ behind ≡ words_saved past words ++ rest → past ≤ run
least past [] rest run behind e = let k : run ≡ past = cc in omega arith
least past (zero ∷ words) rest run behind e = let k : suc past ≤ run = least (suc past) words rest run behind e in omega arith
least past (suc x ∷ words) rest run behind e = let k : run ≡ past = cc in omega arith

pub some_saved : (past : ℕ) (words : List ℕ) → 1 ≤ length (words_saved past words)
some_saved past [] = omega arith
some_saved past (zero ∷ words) = some_saved (suc past) words
some_saved past (suc x ∷ words) = omega arith

-- where a zero is to come, it comes
pub zero_next : (run past : ℕ) (rest : List ℕ) (word : ℕ) (words more : List ℕ) → past < run → run ∷ rest ≡ words_saved past (word ∷ words) ++ more
    → (word ≡ 0) × (run ∷ rest ≡ words_saved (suc past) words ++ more)
zero_next run past rest zero words more h e = (refl, e)
zero_next run past rest (suc x) words more h e = let k : run ≡ past = cc in absurd (omega arith)

-- where none is to come, a word comes that isn't zero
pub word_next : (run past : ℕ) (rest : List ℕ) (word : ℕ) (words more : List ℕ) → run ≤ past → run ∷ rest ≡ words_saved past (word ∷ words) ++ more
    → (0 < word) × (rest ≡ word_bytes word ++ (words_saved 0 words ++ more))
word_next run past rest zero words more h e = let k : suc past ≤ run = least (suc past) words more run rest e in absurd (omega arith)
word_next run past rest (suc x) words more h e =
    let k : rest ≡ (word_bytes (suc x) ++ words_saved 0 words) ++ more = cc in
    (omega arith, k ∙ append_assoc (word_bytes (suc x)) (words_saved 0 words) more)

-- ---- equal bytes are those of equal words
pub words_prefix : (past : ℕ) (words others rest more : List ℕ) → length words ≡ length others → All IsWord words → All IsWord others
    → words_saved past words ++ rest ≡ words_saved past others ++ more → (words ≡ others) × (rest ≡ more)
words_prefix past [] [] rest more n h k e = (refl, cc)
words_prefix past [] (y ∷ others) rest more n h k e = absurd (omega arith)
words_prefix past (x ∷ words) [] rest more n h k e = absurd (omega arith)
words_prefix past (zero ∷ words) (zero ∷ others) rest more n h k e =
    let same = words_prefix (suc past) words others rest more (omega arith) (All-tail IsWord zero words h) (All-tail IsWord zero others k) e in
    (ap (λ (l : List ℕ). zero ∷ l) same.0, same.1)
words_prefix past (zero ∷ words) (suc y ∷ others) rest more n h k e =
    let l : suc past ≤ past = least (suc past) words rest past ((word_bytes (suc y) ++ words_saved 0 others) ++ more) (sym e) in absurd (omega arith)
words_prefix past (suc x ∷ words) (zero ∷ others) rest more n h k e =
    let l : suc past ≤ past = least (suc past) others more past ((word_bytes (suc x) ++ words_saved 0 words) ++ rest) e in absurd (omega arith)
words_prefix past (suc x ∷ words) (suc y ∷ others) rest more n h k e =
    let behind : (word_bytes (suc x) ++ words_saved 0 words) ++ rest ≡ (word_bytes (suc y) ++ words_saved 0 others) ++ more = cc in
    let cut = same_fronts (word_bytes (suc x)) (word_bytes (suc y)) (words_saved 0 words ++ rest) (words_saved 0 others ++ more)
    (length-word_bytes (suc x) ∙ sym (length-word_bytes (suc y)))
    (sym (append_assoc (word_bytes (suc x)) (words_saved 0 words) rest) ∙
    (behind ∙ append_assoc (word_bytes (suc y)) (words_saved 0 others) more)) in
    let word : suc x ≡ suc y = same_word (suc x) (suc y) (All-head IsWord (suc x) words h) (All-head IsWord (suc y) others k) cut.0 in
    let same = words_prefix 0 words others rest more (omega arith) (All-tail IsWord (suc x) words h) (All-tail IsWord (suc y) others k) cut.1 in
    let tail : words ≡ others = same.0 in
    (cc, same.1)

-- ---- reading
-- the first i words were read, and what is left of the bytes is that of the others, after this many
-- zeros
pub record AreReadTo (bytes words : List ℕ) (i run past : ℕ) (rest : List ℕ) : Type 0 where
  pub few : past ≤ run
  pub fit : All IsWord (take i words)
  pub sound : (words' more : List ℕ) → run ∷ rest ≡ words_saved past words' ++ more → bytes ≡ words_saved 0 (take i words ++ words') ++ more
  pub whole : (others more : List ℕ) → length others ≡ length words → All IsWord others → bytes ≡ words_saved 0 others ++ more
      → (take i others ≡ take i words) × (run ∷ rest ≡ words_saved past (drop i others) ++ more)

pub reads_none : (words : List ℕ) (run : ℕ) (rest : List ℕ) → AreReadTo (run ∷ rest) words 0 run 0 rest
reads_none words run rest = record {
  few = omega arith;
  fit = All-nil IsWord;
  sound = λ words' more e. e;
  whole = λ others more n h e. (refl, e);
}

module _ (bytes words : List ℕ) (i run past : ℕ) (rest : List ℕ) (read : AreReadTo bytes words i run past rest) (inside : i < length words) where
  -- the next word is among these
  next : (others : List ℕ) → length others ≡ length words → drop i others ≡ get_or others i 0 ∷ drop (suc i) others
  next others n = drop-cons others i 0 (omega arith)

  one_more : (others : List ℕ) → length others ≡ length words → take (suc i) others ≡ take i others ++ get_or others i 0 ∷ []
  one_more others n = take-suc others i 0 (omega arith)

  written : (x : ℕ) (words' : List ℕ) → take (suc i) (slice_set words i x) ++ words' ≡ take i words ++ x ∷ words'
  written x words' = ap (λ (l : List ℕ). l ++ words') (take-suc-set words i x inside) ∙ append_assoc (take i words) (x ∷ []) words'

  kept : (x : ℕ) (others : List ℕ) → length others ≡ length (slice_set words i x) → length others ≡ length words
  kept x others n = n ∙ length-set words i x

  front : (x : ℕ) (others : List ℕ) → length others ≡ length words → take i others ≡ take i words → get_or others i 0 ≡ x → take (suc i)
      others ≡ take (suc i) (slice_set words i x)
  front x others n same here =
      one_more others n ∙ (ap (λ (l : List ℕ). l ++ get_or others i 0 ∷ []) same ∙
      (ap (λ (y : ℕ). take i words ++ y ∷ []) here ∙ sym (take-suc-set words i x inside)))

  fits : (x : ℕ) → IsWord x → All IsWord (take (suc i) (slice_set words i x))
  fits x h = subst (λ (l : List ℕ). All IsWord l) (sym (take-suc-set words i x inside)) (All-push IsWord (take i words) x read.fit h)

  -- a zero is read
  pub reads_zero : past < run → AreReadTo bytes (slice_set words i 0) (suc i) run (suc past) rest
  reads_zero less = record {
    few = omega arith;
    fit = fits 0 (omega arith);
    sound = λ words' more e. read.sound (0 ∷ words') more e ∙ ap (λ (l : List ℕ). words_saved 0 l ++ more) (sym (written 0 words'));
    whole = λ others more n h e.
        let long = kept 0 others n in
        let was = read.whole others more long h e in
        let is = zero_next run past rest (get_or others i 0) (drop (suc i) others) more less
        (was.1 ∙ ap (λ (l : List ℕ). words_saved past l ++ more) (next others long)) in
        (front 0 others long was.0 is.0, is.1);
  }

  module _ (x : ℕ) (run' : ℕ) (rest' : List ℕ) (wide : IsWord x) (here : rest ≡ word_bytes x ++ run' ∷ rest') (most : run ≤ past) where
    same_run : run ≡ past
    same_run = let few = read.few in omega arith

    again : (words' more : List ℕ) → 0 < x → run' ∷ rest' ≡ words_saved 0 words' ++ more → run ∷ rest ≡ words_saved past (x ∷ words') ++ more
    again words' more some e =
        ap (λ (n : ℕ). n ∷ rest) same_run ∙ (ap (λ (l : List ℕ). past ∷ l)
        (here ∙ (ap (λ (l : List ℕ). word_bytes x ++ l) e ∙ sym (append_assoc (word_bytes x) (words_saved 0 words') more)))
        ∙ ap (λ (l : List ℕ). l ++ more) (sym (saved_some past x words' some)))

    -- what others' next word is, and what comes after it
    other : (others more : List ℕ) → length others ≡ length words → All IsWord others → bytes ≡ words_saved 0 others ++ more
        → (0 < x) × (get_or others i 0 ≡ x) × (run' ∷ rest' ≡ words_saved 0 (drop (suc i) others) ++ more)
    other others more n h e =
        let was = read.whole others more n h e in
        let is = word_next run past rest (get_or others i 0) (drop (suc i) others) more most
        (was.1 ∙ ap (λ (l : List ℕ). words_saved past l ++ more) (next others n)) in
        let cut = same_fronts (word_bytes (get_or others i 0)) (word_bytes x) (words_saved 0 (drop (suc i) others) ++ more) (run' ∷ rest')
        (length-word_bytes (get_or others i 0) ∙ sym (length-word_bytes x)) (sym is.1 ∙ here) in
        let same : get_or others i 0 ≡ x = same_word (get_or others i 0) x (All-get_or IsWord others i 0 (omega arith) h) wide cut.0 in
        let some = is.0 in
        (omega arith, same, sym cut.1)

    -- a word that isn't zero is read
    pub reads_word : 0 < x → AreReadTo bytes (slice_set words i x) (suc i) run' 0 rest'
    reads_word some = record {
      few = omega arith;
      fit = fits x wide;
      sound = λ words' more e. read.sound (x ∷ words') more (again words' more some e) ∙ ap (λ (l : List ℕ). words_saved 0 l ++ more) (sym (written x words'));
      whole = λ others more n h e.
          let long = kept x others n in
          let was = read.whole others more long h e in
          let is = other others more long h e in
          (front x others long was.0 is.1, is.2);
    }

    -- a zero is where none may
    pub no_zero : x ≡ 0 → (others more : List ℕ) → length others ≡ length words → All IsWord others → bytes ≡ words_saved 0 others ++ more → ⊥
    no_zero none others more n h e = let is = other others more n h e in let some = is.0 in omega arith

  -- the bytes end too soon
  pub too_short : run ≤ past → length rest < 9 → (others more : List ℕ) → length others ≡ length words → All IsWord others → bytes ≡
      words_saved 0 others ++ more → ⊥
  too_short most short others more n h e =
      let was = read.whole others more n h e in
      let is = word_next run past rest (get_or others i 0) (drop (suc i) others) more most
      (was.1 ∙ ap (λ (l : List ℕ). words_saved past l ++ more) (next others n)) in
      let size = ap length is.1 ∙ length-append (word_bytes (get_or others i 0)) (words_saved 0 (drop (suc i) others) ++ more) in
      let behind = length-append (words_saved 0 (drop (suc i) others)) more in
      omega (arith, size, behind, length-word_bytes (get_or others i 0), some_saved 0 (drop (suc i) others))

-- ---- all words were read
module _ (bytes words : List ℕ) (i run past : ℕ) (rest : List ℕ) (read : AreReadTo bytes words i run past rest) (all : length words ≤ i) where
  pub reads_all : past ≡ run → bytes ≡ words_saved 0 words ++ rest
  reads_all same =
      read.sound [] rest (ap (λ (n : ℕ). n ∷ rest) (sym same)) ∙ ap (λ (l : List ℕ). words_saved 0 l ++ rest) (append-nil (take i words) ∙ take_all i words all)

  pub reads_fit : All IsWord words
  reads_fit = subst (λ (l : List ℕ). All IsWord l) (take_all i words all) read.fit

  pub zeros_left : (past ≡ run → ⊥) → (others more : List ℕ) → length others ≡ length words → All IsWord others → bytes ≡ words_saved 0 others ++ more → ⊥
  zeros_left ne others more n h e =
      let was = read.whole others more n h e in
      let gone : drop i others ≡ [] = drop_all i others (omega arith) in
      let is : run ∷ rest ≡ past ∷ more = was.1 ∙ ap (λ (l : List ℕ). words_saved past l ++ more) gone in
      let same : past ≡ run = cc in
      ne same
