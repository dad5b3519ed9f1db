use Rattle.std.proofs.Common.{◌≡◌, ℕ, ◌*◌, ◌/◌, ◌<◌, ◌≤◌, refl, ap, sym, subst, ◌∙◌, arith}
use Rattle.bpf_shared.specs.declared.shapes.ArrayShape.{ArrayShape}
use Rattle.bpf_shared.specs.Shape.{copies, copy_stride}
use Rattle.hop_layout.specs.declared.about.About.{About}
use Rattle.hop_layout.specs.Layout.{mem}
use Rattle.hop_words.specs.Ghost.{array_at}
use Rattle.hop_words.specs.Private.Made.{IsFilled}
use Rattle.hop_words.proofs.FixedPlaces.{sized_array}
use Rattle.hop_words.proofs.FirstWords.{array_on}
use Rattle.hop_words.proofs.FirstBytes.{copy_room, copies_some, all_copies}
use Rattle.hop_words.proofs.making.put_array.Goals as goal

all_cpus : (x a : About) (n : ℕ) → x ≡ a → n ≡ x.shape.cpus → n ≡ a.shape.cpus
all_cpus x a n e f = f ∙ ap (λ (y : About). y.shape.cpus) e

pub copy_stride-requires-clause-value : goal.copy_stride-requires-clause-value
copy_stride-requires-clause-value c = subst (λ (g : ArrayShape). g.value ≤ 65536) (sym c.requires.shape)
    (sized_array c.args.index.now c.requires.shaped c.args.array c.requires.array).value.1

pub copy_stride-requires-clause-max : goal.copy_stride-requires-clause-max
copy_stride-requires-clause-max c = subst (λ (g : ArrayShape). g.max ≤ 65536) (sym c.requires.shape)
    (sized_array c.args.index.now c.requires.shaped c.args.array c.requires.array).max.1

pub overflow_cast-copy_words : goal.overflow_cast-copy_words
overflow_cast-copy_words c =
    let r = copy_room c.args.index.now c.requires.shaped c.args.array 0 c.requires.array
    (0, copies_some c.args.index.now c.requires.shaped c.args.array, (omega arith)) in
    let s = c.copy_stride.ensures in
    let q = ap copy_stride c.requires.shape in
    omega arith

pub overflow_mul-copy : goal.overflow_mul-copy
overflow_mul-copy c =
    let a = c.args.index.now in
    let q : c.copy_stride.result ≡ copy_stride (array_at a c.args.array) = c.copy_stride.ensures ∙ ap copy_stride c.requires.shape in
    let few : c.copies.copy < copies a.shape.cpus (array_at a c.args.array) = subst (λ (n : ℕ). c.copies.copy < n)
    (c.copies-copy-end.ensures ∙ (λ j. copies (all_cpus c.about-2.result.now a c.cpus.result c.about-2.ensures c.cpus.ensures.cpus
    j) (c.requires.shape j))) c.copies-test.true in
    let r = copy_room a c.requires.shaped c.args.array (c.copies.copy * (copy_stride (array_at a c.args.array) / 8)) c.requires.array
    (c.copies.copy, few, refl) in
    let m = ap (λ (n : ℕ). c.copies.copy * (n / 8)) q in
    omega arith

pub returns-clause-filled : goal.returns-clause-filled
returns-clause-filled c =
    let a = c.args.index.now in
    let n : c.copies.copy ≡ copies a.shape.cpus (array_at a c.args.array) =
    (let f = c.copies-test.false in let g = c.copies.auto.copy-end in let z : c.copies.copy ≡ c.copies-copy-end.result = omega arith in z)
    ∙ (c.copies-copy-end.ensures ∙ (λ j. copies (all_cpus c.about-2.result.now a c.cpus.result c.about-2.ensures c.cpus.ensures.cpus j)
    (c.requires.shape j))) in
    array_on a (mem a.shape c.copies.words.items) c.args.array (subst (IsFilled a (mem a.shape c.copies.words.items) c.args.array)
    (ap (λ (k : ℕ). k * (copy_stride (array_at a c.args.array) / 8)) n ∙ all_copies a c.args.array) c.copies.invariant.1)

pub returns-clause-bytes : goal.returns-clause-bytes
returns-clause-bytes c =
    let a = c.args.index.now in
    let n : c.copies-copy-end.result ≡ copies a.shape.cpus (array_at a c.args.array) = c.copies-copy-end.ensures ∙
    (λ j. copies (all_cpus c.about-2.result.now a c.cpus.result c.about-2.ensures c.cpus.ensures.cpus j) (c.requires.shape j)) in
    let some = copies_some a c.requires.shaped c.args.array in
    c.copies.invariant.2 (let f = c.copies-test.false in omega arith)
