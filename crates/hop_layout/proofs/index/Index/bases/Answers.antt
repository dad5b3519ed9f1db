use Rattle.std.proofs.Common.{ℕ, ◌<◌, ap, sym, subst, ◌∙◌, arith, length, slice_index_or}
use Rattle.hop_layout.specs.declared.about.About.{About}
use Rattle.hop_layout.specs.declared.index.Bases.{Bases}
use Rattle.hop_layout.specs.Private.Index.{bases}
use Rattle.std.proofs.lemmas.Option.{get_or_from_slice_get}
use Rattle.hop_layout.proofs.index.Index.bases.Goals as goal

abbrev no_bases : Bases
no_bases = record { start = 0; segments = 0; links = 0; keys = 0; values = 0; key_words = 0; value_words = 0; first = 0 }

pub bounds-self-inside-from : goal.bounds-self-inside-from
bounds-self-inside-from c =
    let inside : c.args.map < length c.self.inside.about.shape.maps = subst (λ (x : About). c.args.map < length x.shape.maps)
    (sym c.self.view_is) c.requires.there in
    let few = c.self.invariant.few in
    let f = c.from.ensures in
    omega arith

pub returns : goal.returns
returns c =
    let inside : c.args.map < length c.self.inside.about.shape.maps = subst (λ (x : About). c.args.map < length x.shape.maps)
    (sym c.self.view_is) c.requires.there in
    let own = get_or_from_slice_get c.self.inside.maps c.args.map (bases c.self.inside.about.shape c.args.map) no_bases
    (c.self.invariant.each c.args.map inside) in
    record {
      bases = ap (λ (i : ℕ). slice_index_or c.self.inside.maps i no_bases) c.from.ensures ∙
          (own ∙ ap (λ (x : About). bases x.shape c.args.map) c.self.view_is);
    }
