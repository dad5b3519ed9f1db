use Rattle.std.proofs.Common.{ℕ, ◌-◌, ◌%◌, refl, ap, sym, ◌∙◌, arith}
use Rattle.hop_layout.proofs.Depths.{segments_are}
use Rattle.hop_words.proofs.Walks.{stays, leads}
use Rattle.hop_words.proofs.walking.towards.Goals as goal

pub returns-then-ahead-eq0 : goal.returns-then-ahead-eq0
returns-then-ahead-eq0 c =
    let bit = segments_are c.args.depth c.requires.small in
    let none = ap (λ (i : ℕ). (c.args.home - c.args.way.segment) % i) (sym bit) ∙ c.if-ahead-eq0.true in
    record { way = stays c.args.home c.args.way c.requires.way c.args.depth c.requires.room none }

pub returns : goal.returns
returns c =
    let some = c.if-ahead-eq0.false in
    let bit = segments_are c.args.depth c.requires.small in
    record { way = leads c.args.home c.args.way _ c.args.depth _ c.requires.way c.requires.small bit (grind arith) refl refl }
