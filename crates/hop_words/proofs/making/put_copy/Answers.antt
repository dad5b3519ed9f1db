use Rattle.std.proofs.Common.{◌≡◌, ℕ, ◌+◌, ◌*◌, ◌/◌, ◌≤◌, List, length, refl, ap, sym, subst, ◌∙◌, arith}
use Rattle.std.proofs.lemmas.Bool.{lt-ltb}
use Rattle.bpf_shared.specs.Shape.{contents_of, copy_stride}
use Rattle.hop_layout.specs.declared.place.Place.{Place}
use Rattle.hop_layout.specs.declared.place.Place.TheVariants.{FixedWord}
use Rattle.hop_layout.specs.Layout.{mem, put_at, array_words}
use Rattle.hop_layout.specs.Words.{AreBytes, word_of}
use Rattle.hop_words.specs.Ghost.{array_at}
use Rattle.hop_words.specs.Private.Made.{IsFilled, first_word}
use Rattle.hop_words.proofs.FirstWords.{fixed_on, fixed_skip}
use Rattle.hop_words.proofs.FirstBytes.{copy_word, copy_zero, copy_room, contents_few, are_bytes}
use Rattle.hop_words.proofs.making.put_copy.Goals as goal

pub overflow_cast-word-end : goal.overflow_cast-word-end
overflow_cast-word-end c =
    let r = copy_room c.args.index.now c.requires.shaped c.args.array c.args.first c.requires.array c.requires.first in
    let f = contents_few c.args.index.now c.requires.shaped c.args.array c.requires.array in
    let b = ap length c.requires.bytes in
    let d = c.div_ceil-word-end.ensures in
    omega arith

pub overflow_add-place : goal.overflow_add-place
overflow_add-place c =
    let r = copy_room c.args.index.now c.requires.shaped c.args.array c.args.first c.requires.array c.requires.first in
    let f = contents_few c.args.index.now c.requires.shaped c.args.array c.requires.array in
    let b = ap length c.requires.bytes in
    let d = c.div_ceil-word-end.ensures in
    let t = c.words-test.true in
    omega arith

pub put-requires-clause-there : goal.put-requires-clause-there
put-requires-clause-there c =
    let a = c.args.index.now in
    let f = contents_few a c.requires.shaped c.args.array c.requires.array in
    let b = ap length c.requires.bytes in
    let d = c.div_ceil-word-end.ensures in
    let t = c.words-test.true in
    let low = (copy_word a c.args.array c.args.first c.words.word c.requires.first (omega arith)).1 in
    rw (lt-ltb c.args.array (length a.shape.arrays) c.requires.array, lt-ltb (c.args.first + c.words.word) (array_words a.shape c.args.array) low) refl

pub words-preserved : goal.words-preserved
words-preserved c =
    let a = c.args.index.now in
    let n = c.args.array in
    let k = c.words.word in
    let w : Place → ℕ = mem a.shape c.words.words.items in
    let f = contents_few a c.requires.shaped n c.requires.array in
    let b = ap length c.requires.bytes in
    let d = c.div_ceil-word-end.ensures in
    let t = c.words-test.true in
    let number : c.word_of.result ≡ first_word a n (c.args.first + k) = c.word_of.ensures ∙
    (ap (λ (bs : List ℕ). word_of bs k) c.requires.bytes ∙ sym (copy_word a n c.args.first k c.requires.first (omega arith)).0) in (
      c.put.ensures.sized,
      subst (λ (v : Place → ℕ). IsFilled a v n (c.args.first + (k + 1))) (sym (c.put.ensures.put ∙ ap (put_at w (FixedWord n (c.args.first + k))) number))
          (subst (λ (m : ℕ). IsFilled a (put_at w (FixedWord n (c.args.first + k)) (first_word a n (c.args.first + k))) n m)
          (let z : c.args.first + k + 1 ≡ c.args.first + (k + 1) = omega arith in z) (fixed_on a w n (c.args.first + k) c.words.invariant.1)),
    )

pub returns-clause-filled : goal.returns-clause-filled
returns-clause-filled c =
    let a = c.args.index.now in
    let n = c.args.array in
    let k = c.words.word in
    let f = contents_few a c.requires.shaped n c.requires.array in
    let b = ap length c.requires.bytes in
    let d = c.div_ceil-word-end.ensures in
    let t = c.words-test.false in
    let e = c.words.auto.word-end in
    let most : length (contents_of a.shape n) ≤ 8 * k = omega arith in
    fixed_skip a (mem a.shape c.words.words.items) n (c.args.first + k) (c.args.first + copy_stride (array_at a n) / 8) (omega arith)
    (λ j from low. copy_zero a n c.args.first j k c.requires.first from low most) c.words.invariant.1

pub returns-clause-bytes : goal.returns-clause-bytes
returns-clause-bytes c = subst AreBytes c.requires.bytes (are_bytes c.args.bytes.now (λ i. let f = c.type_inv.bytes i in omega arith))
