use Rattle.std.proofs.Common.{◌≡◌, ◌+◌, ◌≤◌, ℕ, true, Some, None, option_map, ap, sym, subst, ◌∙◌, arith}
use Rattle.std.proofs.lemmas.Option.{slice_get_within}
use Rattle.bpf_shared.specs.declared.shapes.ArrayShape.{ArrayShape}
use Rattle.bpf_shared.specs.Store.{Plain, fixed_number}
use Rattle.hop_layout.specs.declared.place.Place.TheVariants.{FixedWord}
use Rattle.hop_layout.specs.Layout.{is_place, words_for}
use Rattle.hop_words.specs.Closing.{Ending}
use Rattle.hop_words.specs.Ghost.{fixed_word}
use Rattle.hop_map.specs.Dumping.{fixed_of}
use Rattle.hop_map.specs.Private.Dumping.{array_with, fixed_in}
use Rattle.hop_map.proofs.Arrays.{found_there, fixed_by, word_there, words_room, value_shown, last_shape}
use Rattle.hop_map.proofs.closed.Closed.fixed.Goals as goal

pub returns-in_default : goal.returns-in_default
returns-in_default c = record {
  shows = λ last is.
      let e = c.args.self.now in
      let b = c.args.array in
      let k = c.args.copy in
      let i = c.args.index in
      let none : array_with e.about.shape b k i ≡ None = ap (λ (z : Ending). array_with z.about.shape b k i) (sym c.self.view_is) ∙
      (sym c.array_with.ensures ∙ c.in_default.is) in
      ap (λ (s : Plain). fixed_of s b k i) is.1
      ∙ (fixed_by is.0.ghost.last e.about.shape b k i (last_shape e is.0) ∙ ap
      (option_map (λ (g : ArrayShape). (is.0.ghost.last.value (fixed_number b k i)).bytes)) none);
}

pub first_word-first-requires-clause-shape : goal.first_word-first-requires-clause-shape
first_word-first-requires-clause-shape c =
    let e = c.self.inside.rest in
    let there = found_there e.about.shape c.args.array c.args.copy c.args.index c.in-Some.shape (sym c.array_with.ensures ∙ c.in-Some.is) in
    (c.about-about.ensures.whole.rule.shaped.arrays c.args.array c.in-Some.shape there.0).0

pub overflow_cast-array : goal.overflow_cast-array
overflow_cast-array c =
    let e = c.self.inside.rest in
    let there = found_there e.about.shape c.args.array c.args.copy c.args.index c.in-Some.shape (sym c.array_with.ensures ∙ c.in-Some.is) in
    let inside = slice_get_within e.about.shape.arrays c.args.array c.in-Some.shape there.0 in
    let few = c.about-about.ensures.whole.rule.shaped.array_count in
    omega arith

pub read_words-requires : goal.read_words-requires
read_words-requires c =
    let e = c.self.inside.rest in
    let h = e.about.shape in
    let g = c.in-Some.shape in
    let shaped = c.about-about.ensures.whole.rule.shaped in
    let there = found_there h c.args.array c.args.copy c.args.index g (sym c.array_with.ensures ∙ c.in-Some.is) in
    let first = c.first_word-first.ensures.first in
    record {
      there = λ word l. subst (λ (n : ℕ). is_place h (FixedWord c.args.array (n + word)) ≡ true) (sym first)
          (word_there h shaped c.args.array c.args.copy c.args.index g there.0 there.1 there.2 word l);
      room = subst (λ (n : ℕ). n + words_for g.value ≤ 0x200_0000) (sym first)
          (words_room h shaped c.args.array c.args.copy c.args.index g there.0 there.1 there.2);
    }

pub returns : goal.returns
returns c = record {
  shows = λ last is.
      let e = c.args.self.now in
      let b = c.args.array in
      let k = c.args.copy in
      let i = c.args.index in
      let g = c.in-Some.shape in
      let some : array_with e.about.shape b k i ≡ Some g = ap (λ (z : Ending). array_with z.about.shape b k i) (sym c.self.view_is) ∙
      (sym c.array_with.ensures ∙ c.in-Some.is) in
      let there = found_there e.about.shape b k i g some in
      let read : c.in_ok-bytes.bytes.items ≡ fixed_in e b (fixed_word g k i) g.value =
      c.in_ok-bytes.ensures ∙ (ap (λ (n : ℕ). fixed_in c.self.inside.rest b n g.value) c.first_word-first.ensures.first ∙ ap
      (λ (z : Ending). fixed_in z b (fixed_word g k i) g.value) c.self.view_is) in
      ap (λ (s : Plain). fixed_of s b k i) is.1
      ∙ (fixed_by is.0.ghost.last e.about.shape b k i (last_shape e is.0)
      ∙ (ap (option_map (λ (x : ArrayShape). (is.0.ghost.last.value (fixed_number b k i)).bytes)) some
      ∙ ap Some (value_shown e is.0 b k i g there.0 there.1 there.2 ∙ sym read)));
}
