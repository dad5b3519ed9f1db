use Rattle.std.proofs.Common.{ℕ, ◌+◌, ◌≤◌, Option, Some, None, ap, sym, subst, ◌∙◌, arith}
use Rattle.bpf_shared.specs.Shape.{elements}
use Rattle.bpf_shared.specs.Listing.{listed}
use Rattle.hop_words.specs.Content.{item}
use Rattle.hop_seg.specs.Words.{Words as SegWords}
use Rattle.hop_seg.proofs.Walking.{Counted, counted_begins, counted_on, counted_ends, walk_at, walk_ends}
use Rattle.hop_map.specs.Private.Dumping.{key_in, IsKeyAmong}
use Rattle.hop_words.proofs.Locked.{link_there}
use Rattle.hop_map.proofs.Dumps.{seen, sound, on_list, listed_reached, reached_inside, adds_none, adds_on, walk_weaker}
use Rattle.hop_map.proofs.dumping.add_listed.Goals as goal

pub list-init : goal.list-init
list-init c =
    let e = c.args.rest.now in
    let w = c.about-about.ensures.whole in
    let v : SegWords = seen e w c.args.map c.args.segment c.requires.inside in
    let P : ℕ → Type 0 = λ i. IsKeyAmong (key_in e c.args.map i) (listed c.args.pairs.now.entries) in
    record {
      adds = adds_none e c.args.map (listed c.args.pairs.now.entries);
      before = None;
      walk = subst (λ (o : Option ℕ). Counted v P None o 0) (sym (c.item-at.ensures ∙ ap item c.word.ensures.word))
          (counted_begins v (sound e w c.args.map c.args.segment c.requires.inside) P);
    }

reached_now : goal.add-requires-clause-reached
reached_now c =
    let e = c.args.rest.now in
    let w = c.about-about.ensures.whole in
    let v : SegWords = seen e w c.args.map c.args.segment c.requires.inside in
    let P : ℕ → Type 0 = λ i. IsKeyAmong (key_in e c.args.map i) (listed c.list.pairs.entries) in
    let k = subst (λ (o : Option ℕ). Counted v P c.list.invariant.before o c.list._passed) c.in-Some.is c.list.invariant.walk in
    listed_reached e w c.args.map c.args.segment c.requires.inside c.in-Some.element
    (walk_at v (sound e w c.args.map c.args.segment c.requires.inside) P c.list.invariant.before c.in-Some.element k.walk).link.listed

pub add-requires-clause-reached : goal.add-requires-clause-reached
add-requires-clause-reached c = reached_now c

pub add-requires-clause-element : goal.add-requires-clause-element
add-requires-clause-element c =
    let e = c.args.rest.now in
    let w = c.about-about.ensures.whole in
    let v : SegWords = seen e w c.args.map c.args.segment c.requires.inside in
    let P : ℕ → Type 0 = λ i. IsKeyAmong (key_in e c.args.map i) (listed c.list.pairs.entries) in
    let k = subst (λ (o : Option ℕ). Counted v P c.list.invariant.before o c.list._passed) c.in-Some.is c.list.invariant.walk in
    reached_inside e w c.args.map c.args.segment c.in-Some.element c.requires.inside
    (listed_reached e w c.args.map c.args.segment c.requires.inside c.in-Some.element
    (walk_at v (sound e w c.args.map c.args.segment c.requires.inside) P c.list.invariant.before c.in-Some.element k.walk).link.listed)

pub word-requires-in-list : goal.word-requires-in-list
word-requires-in-list c =
    let e = c.args.rest.now in
    let w = c.about-about.ensures.whole in
    let v : SegWords = seen e w c.args.map c.args.segment c.requires.inside in
    let P : ℕ → Type 0 = λ i. IsKeyAmong (key_in e c.args.map i) (listed c.list.pairs.entries) in
    let k = subst (λ (o : Option ℕ). Counted v P c.list.invariant.before o c.list._passed) c.in-Some.is c.list.invariant.walk in
    let inside = reached_inside e w c.args.map c.args.segment c.in-Some.element c.requires.inside
    (listed_reached e w c.args.map c.args.segment c.requires.inside c.in-Some.element
    (walk_at v (sound e w c.args.map c.args.segment c.requires.inside) P c.list.invariant.before c.in-Some.element k.walk).link.listed) in
    record { there = link_there e.about c.args.map c.in-Some.element inside }

pub list-preserved : goal.list-preserved
list-preserved c =
    let e = c.args.rest.now in
    let m = c.args.map in
    let w = c.about-about.ensures.whole in
    let v : SegWords = seen e w m c.args.segment c.requires.inside in
    let now = listed c.list.pairs.entries in
    let after = listed c.add.new.pairs.entries in
    let P : ℕ → Type 0 = λ i. IsKeyAmong (key_in e m i) now in
    let Q : ℕ → Type 0 = λ i. IsKeyAmong (key_in e m i) after in
    let i = c.in-Some.element in
    let k = subst (λ (o : Option ℕ). Counted v P c.list.invariant.before o c.list._passed) c.in-Some.is c.list.invariant.walk in
    let more = walk_weaker v P Q c.list.invariant.before (Some i) c.list._passed (λ j h. c.in_ok-add.ensures.adds.kept (key_in e m j) h) k in
    record {
      adds = adds_on e m (listed c.args.pairs.now.entries) now after c.list.invariant.adds c.in_ok-add.ensures.adds;
      before = Some i;
      walk = subst (λ (o : Option ℕ). Counted v Q (Some i) o (c.list._passed + 1)) (sym (c.item-at-in-list.ensures ∙ ap item c.word-in-list.ensures.word))
          (counted_on v (sound e w m c.args.segment c.requires.inside) Q c.list.invariant.before i c.list._passed more c.in_ok-add.ensures.key);
    }

pub returns-in_default-clause-keys : goal.returns-in_default-clause-keys
returns-in_default-clause-keys c = λ i on.
    let e = c.args.rest.now in
    let w = c.about-about.ensures.whole in
    let v : SegWords = seen e w c.args.map c.args.segment c.requires.inside in
    let P : ℕ → Type 0 = λ i. IsKeyAmong (key_in e c.args.map i) (listed c.list.pairs.entries) in
    let k = subst (λ (o : Option ℕ). Counted v P c.list.invariant.before o c.list._passed) c.in_default.is c.list.invariant.walk in
    walk_ends v P c.list.invariant.before k.walk i (on_list e w c.args.map c.args.segment c.requires.inside i on)

pub returns-clause-keys : goal.returns-clause-keys
returns-clause-keys c = λ i on.
    let e = c.args.rest.now in
    let w = c.about-about.ensures.whole in
    let v : SegWords = seen e w c.args.map c.args.segment c.requires.inside in
    let P : ℕ → Type 0 = λ i. IsKeyAmong (key_in e c.args.map i) (listed c.list.pairs.entries) in
    let all : v.fixed.limit ≤ c.list._passed =
    (let t = c.list-test.false in let n = c.elements-count.ensures.elements in let g = c.shape_of.ensures.shape in omega (arith, n ∙ ap elements g))
    in
    counted_ends v (sound e w c.args.map c.args.segment c.requires.inside) P c.list.invariant.before c.list.at c.list._passed all
    c.list.invariant.walk i (on_list e w c.args.map c.args.segment c.requires.inside i on)
