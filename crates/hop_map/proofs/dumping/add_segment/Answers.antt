use Rattle.std.proofs.Common.{ℕ, ◌+◌, ◌%◌, arith, ⊎_elim}
use Rattle.bpf_shared.specs.Listing.{listed}
use Rattle.hop_words.specs.Content.{HopsTo, IsOnList}
use Rattle.hop_map.specs.Private.Dumping.{words_in, key_in}
use Rattle.hop_map.proofs.Dumps.{adds_on}
use Rattle.hop_map.proofs.dumping.add_segment.Goals as goal

pub returns-clause-adds : goal.returns-clause-adds
returns-clause-adds c =
    adds_on c.args.rest.now c.args.map (listed c.args.pairs.now.entries) (listed c.add_placed.new.pairs.entries) (listed c.add_listed.new.pairs.entries)
    c.in_ok-add_placed.ensures.adds c.in_ok-add_listed.ensures.adds

pub returns-clause-keys : goal.returns-clause-keys
returns-clause-keys c = λ i r.
    let e = c.args.rest.now in
    let m = c.args.map in
    let s = c.args.segment in
    ⊎_elim
    (λ (h : (b : ℕ) × (d : ℕ) × HopsTo (words_in e) m s b d i). c.in_ok-add_listed.ensures.adds.kept (key_in e m i)
    (c.in_ok-add_placed.ensures.keys ((h.0 + h.1) % 64) i (omega arith) h.2.3))
    (λ (l : IsOnList (words_in e) m s i). c.in_ok-add_listed.ensures.keys i l)
    r
