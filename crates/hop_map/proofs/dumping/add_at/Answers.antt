use Rattle.std.proofs.Common.{◌≡◌, ap, sym, ◌∙◌, Some}
use Rattle.hop_words.specs.Content.{item}
use Rattle.hop_map.specs.Private.Dumping.{words_in}
use Rattle.hop_map.proofs.Dumps.{at_place, reached_inside}
use Rattle.hop_map.proofs.dumping.add_at.Goals as goal

pub add-requires-clause-reached : goal.add-requires-clause-reached
add-requires-clause-reached c =
    let e = c.args.rest.now in
    let is : item ((words_in e).slot c.args.map c.args.segment c.args.place) ≡ Some c.in-Some.element = ap item (sym c.word.ensures.word) ∙
    (sym c.item.ensures ∙ c.in-Some.is) in
    at_place e c.about-about.ensures.whole c.args.map c.args.segment c.requires.inside c.args.place c.in-Some.element c.requires.place is

pub add-requires-clause-element : goal.add-requires-clause-element
add-requires-clause-element c =
    let e = c.args.rest.now in
    let is : item ((words_in e).slot c.args.map c.args.segment c.args.place) ≡ Some c.in-Some.element = ap item (sym c.word.ensures.word) ∙
    (sym c.item.ensures ∙ c.in-Some.is) in
    reached_inside e c.about-about.ensures.whole c.args.map c.args.segment c.in-Some.element c.requires.inside
    (at_place e c.about-about.ensures.whole c.args.map c.args.segment c.requires.inside c.args.place c.in-Some.element c.requires.place is)
