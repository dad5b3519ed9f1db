use Rattle.std.proofs.Common.{◌≡◌, ℕ, sym, ap, ◌∙◌, arith, ⊎_elim}
use Rattle.std.proofs.lemmas.Bool.{cases_eq}
use Rattle.bpf_shared.specs.Listing.{listed}
use Rattle.hop_words.specs.Content.{item}
use Rattle.hop_map.specs.Private.Dumping.{words_in, key_in}
use Rattle.hop_map.proofs.Dumps.{adds_on}
use Rattle.hop_map.proofs.dumping.add_placed.Goals as goal

pub places-preserved : goal.places-preserved
places-preserved c =
    let e = c.args.rest.now in
    let m = c.args.map in
    let s = c.args.segment in
    let now = listed c.places.pairs.entries in
    let after = listed c.add_at.new.pairs.entries in
    record {
      adds = adds_on e m (listed c.args.pairs.now.entries) now after c.places.invariant.adds c.in_ok-add_at.ensures.adds;
      keys = λ p i l is. ⊎_elim
          (λ (at : p ≡ c.places.place). c.in_ok-add_at.ensures.key i (ap (λ (q : ℕ). item ((words_in e).slot m s q)) (sym at) ∙ is))
          (λ ne. c.in_ok-add_at.ensures.adds.kept (key_in e m i) (c.places.invariant.keys p i (omega arith) is))
          (cases_eq p c.places.place);
    }

pub returns-clause-keys : goal.returns-clause-keys
returns-clause-keys c = λ p i l is. c.places.invariant.keys p i (let t = c.places-test.false in omega arith) is
