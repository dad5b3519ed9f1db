-- The steps on words of values as code makes them.
use Rattle.std.proofs.Common.{◌≡◌, ℕ, ◌+◌, ◌%◌, ◌<◌, true, false, Bool, ◌==◌, length, refl, ap, sym, subst, ◌∙◌, arith, bit_and, bit_or}
use Rattle.std.proofs.Common.{bit_xor, if◌then◌else◌, ◌≤◌, ◌*◌}
use Rattle.std.proofs.lemmas.Bool.{lt-ltb}
use prog.Atomic.{either}
use Rattle.bpf_base.specs.Bytes.{low_bytes, with_part}
use Rattle.bpf_base.specs.Atomic.{number_after}
use Rattle.bpf_base.proofs.Numbers.{little_endian-low_bytes}
use Rattle.bpf_shared.specs.Shape.{elements}
use Rattle.bpf_base.specs.declared.atomic.Change.{Change}
use Rattle.bpf_base.specs.declared.atomic.Change.TheVariants.{Add, Or, And, Xor, Exchange, CompareExchange}
use Rattle.bpf_shared.specs.declared.events.Event.TheVariants.{Store, Atomic}
use Rattle.bpf_shared.specs.declared.events.Size.TheVariants.{Double}
use Rattle.hop_layout.specs.declared.about.About.{About}
use Rattle.hop_words.specs.declared.known.Known.{Known}
use Rattle.hop_layout.specs.declared.place.Place.{Place}
use Rattle.hop_layout.specs.declared.place.Place.TheVariants.{ValueWord, FixedWord}
use Rattle.hop_words.specs.declared.touching.ValuePart.{ValuePart}
use Rattle.hop_words.specs.declared.fixed.FixedPart.{FixedPart}
use Rattle.hop_layout.specs.Layout.{is_place, mem, words_for, array_words}
use Rattle.hop_words.specs.Ghost.{shape_at, array_at, lane}
use Rattle.hop_words.specs.Private.Step.{Steps}
use Rattle.hop_words.specs.Kinds.{TouchesHeldValue, TouchesFixedValue, number_in_word, AddsEvent}
use Rattle.hop_words.specs.Touching.{TouchesWord, part_address, ChangesFixedWord, fixed_part_address}
use Rattle.hop_layout.proofs.WordBytes.{whole_word}
use Rattle.hop_words.proofs.Values.{value_store, value_fetch}
use Rattle.hop_words.proofs.FixedPlaces.{inside_words}
use Rattle.hop_words.proofs.FixedWords.{fixed_store, fixed_fetch}

pub value_there : (a : About) (l : Known) (m e k o n : ℕ) → TouchesHeldValue a l m e k o n → is_place a.shape (ValueWord m e k) ≡ true
value_there a l m e k o n t = rw (
  lt-ltb m (length a.shape.maps) t.element.0,
  lt-ltb e (elements (shape_at a m)) t.element.1,
  lt-ltb k
      (words_for (shape_at a m).value) t.word,
) refl

-- a word read whole
pub found_whole : (n : ℕ) → n < 18446744073709551616 → number_in_word n 0 8 ≡ n
found_whole n small = little_endian-low_bytes 8 n small

pub fixed_there : (a : About) (l : Known) (b k o n : ℕ) → TouchesFixedValue a l b k o n → 1 ≤ n → is_place a.shape (FixedWord b k) ≡ true
fixed_there a l b k o n t some = rw (
  lt-ltb b (length a.shape.arrays) t.array,
  lt-ltb k (array_words a.shape b)
      (inside_words a.shape.cpus (array_at a b) (8 * k + o) n k t.within some (let f = t.fits in omega arith)),
) refl

-- ---- whole words
-- fetch operations and swaps on the word at p, whose first byte has this address
abbrev Fetches : About → Known → Place → ℕ → Type 0
Fetches a l p address = (op : Change) (operand expected : ℕ) (f : ℕ → ℕ) → ((n : ℕ) → n < 18446744073709551616 → f n ≡ number_after op 8 n operand expected)
    → Steps a l p f (λ ws n l'. AddsEvent a l (Atomic address Double op operand expected n) l')

-- they are those of all bytes from the first on
fetches : (a : About) (l : Known) (p : Place) (address o : ℕ) → o ≡ 0 → ((op : Change) (operand expected : ℕ) (f : ℕ → ℕ)
    → ((n : ℕ) → n < 18446744073709551616 → low_bytes 8 (f n) ≡ with_part (low_bytes 8 n) o
    (low_bytes 8 (number_after op 8 (number_in_word n o 8) operand expected)))
    → Steps a l p f (λ ws n l'. AddsEvent a l (Atomic address Double op operand expected (number_in_word n o 8)) l')) → Fetches a l p address
fetches a l p address o first all op operand expected f same ws g sized r is inside fits =
    let n = mem a.shape ws p in
    let next = all op operand expected f splices ws g sized r is inside fits in
    record {
      ghost = next.ghost;
      rule = next.rule;
      others = next.others;
      longer = next.longer;
      tally = next.tally;
      says = subst (λ (i : ℕ). AddsEvent a l (Atomic address Double op operand expected i) (lane next.ghost.lanes l.cpu)) (found n fits) next.says;
    }
  where
    found : (i : ℕ) → i < 18446744073709551616 → number_in_word i o 8 ≡ i
    found i small = ap (λ (q : ℕ). number_in_word i q 8) first ∙ found_whole i small

    splices : (i : ℕ) → i < 18446744073709551616 → low_bytes 8 (f i) ≡ with_part (low_bytes 8 i) o
        (low_bytes 8 (number_after op 8 (number_in_word i o 8) operand expected))
    splices i small =
        whole_word i (f i)
        ∙ (ap (λ (z : ℕ). with_part (low_bytes 8 i) 0 (low_bytes 8 z))
        (same i small ∙ ap (λ (z : ℕ). number_after op 8 z operand expected) (sym (found i small)))
        ∙ ap (λ (q : ℕ). with_part (low_bytes 8 i) q (low_bytes 8 (number_after op 8 (number_in_word i o 8) operand expected))) (sym first))

all_bytes : (o x n : ℕ) → o ≡ 0 → low_bytes 8 x ≡ with_part (low_bytes 8 n) o (low_bytes 8 x)
all_bytes o x n first = subst (λ (i : ℕ). low_bytes 8 x ≡ with_part (low_bytes 8 n) i (low_bytes 8 x)) (sym first) (whole_word n x)

module _ (a : About) (l : Known) (p : ValuePart) (t : TouchesWord a l p) where
  first : p.offset ≡ 0
  first = let z = t.fits in omega arith

  pub stores : (x : ℕ) → Steps a l (ValueWord p.map p.element p.word) (λ _. x) (λ ws n l'. AddsEvent a l (Store (part_address a p) Double x) l')
  stores x = value_store a l p.map p.element p.word p.offset Double t x x (λ n. all_bytes p.offset x n first)

  pub value_fetches : Fetches a l (ValueWord p.map p.element p.word) (part_address a p)
  value_fetches = fetches a l (ValueWord p.map p.element p.word) (part_address a p) p.offset first
      (λ op operand expected f splices. value_fetch a l p.map p.element p.word p.offset Double t op operand expected f splices)

module _ (a : About) (l : Known) (p : FixedPart) (t : ChangesFixedWord a l p) where
  fixed_first : p.offset ≡ 0
  fixed_first = let z = t.touches.fits in omega arith

  pub fixed_stores : (x : ℕ) → Steps a l (FixedWord p.array p.word) (λ _. x) (λ ws n l'. AddsEvent a l (Store (fixed_part_address p) Double x) l')
  fixed_stores x = fixed_store a l p.array p.word p.offset Double t x x (λ n. all_bytes p.offset x n fixed_first)

  pub fixed_fetches : Fetches a l (FixedWord p.array p.word) (fixed_part_address p)
  fixed_fetches = fetches a l (FixedWord p.array p.word) (fixed_part_address p) p.offset fixed_first
      (λ op operand expected f splices. fixed_fetch a l p.array p.word p.offset Double t op operand expected f splices)

module _ (a : About) (l : Known) (p : Place) (address : ℕ) (all : Fetches a l p address) (operand expected : ℕ)
    (small : operand < 18446744073709551616) (few : expected < 18446744073709551616) where
  whole : operand % 18446744073709551616 ≡ operand
  whole = omega arith

  pub adds : Steps a l p (λ n. (n + operand) % 18446744073709551616) (λ ws n l'. AddsEvent a l (Atomic address Double Add operand expected n) l')
  adds = all Add operand expected (λ n. (n + operand) % 18446744073709551616) (λ n lt-ltb. refl)

  pub ors : Steps a l p (λ n. bit_or n operand) (λ ws n l'. AddsEvent a l (Atomic address Double Or operand expected n) l')
  ors = all Or operand expected (λ n. bit_or n operand) (λ n lt-ltb. ap (bit_or n) (sym whole))

  pub ands : Steps a l p (λ n. bit_and n operand) (λ ws n l'. AddsEvent a l (Atomic address Double And operand expected n) l')
  ands = all And operand expected (λ n. bit_and n operand) (λ n lt-ltb. ap (bit_and n) (sym whole))

  pub xors : Steps a l p (λ n. bit_xor n operand) (λ ws n l'. AddsEvent a l (Atomic address Double Xor operand expected n) l')
  xors = all Xor operand expected (λ n. bit_xor n operand) (λ n lt-ltb. ap (bit_xor n) (sym whole))

  pub swaps : Steps a l p (λ n. operand) (λ ws n l'. AddsEvent a l (Atomic address Double Exchange operand expected n) l')
  swaps = all Exchange operand expected (λ n. operand) (λ n lt-ltb. sym whole)

  pub exchanges : Steps a l p (λ n. either (n == expected) operand n) (λ ws n l'. AddsEvent a l (Atomic address Double CompareExchange operand expected n) l')
  exchanges = all CompareExchange operand expected (λ n. either (n == expected) operand n) (λ n lt-ltb. tests n)
    where
      expects : expected % 18446744073709551616 ≡ expected
      expects = omega arith

      chosen : (b : Bool) (x y : ℕ) → either b x y ≡ if b then x else y
      chosen true x y = refl
      chosen false x y = refl

      tests : (n : ℕ) → either (n == expected) operand n ≡ number_after CompareExchange 8 n operand expected
      tests n = chosen (n == expected) operand n ∙ (λ j. if n == sym expects j then sym whole j else n)
