use Rattle.std.proofs.Common.{◌≢◌, ◌∙◌, ◌<◌, sym, length, arith}
use Rattle.bpf_equal.proofs.Settling.{next_order, came, swapped_many}
use Rattle.bpf_equal.proofs.twins.Twins.settle.Goals as goal

pub returns-in-Some-clause-order : goal.returns-in-Some-clause-order
returns-in-Some-clause-order c first order =
    let old = c.args.self.now.order.items in
    let new = c.swap.new.self.items in
    let by = c.swap.ensures.by_index in
    let after = c.in-Some.ensures.after in
    let low : c.args.place < length old = omega (arith, c.requires.place, c.requires.many) in
    let high : c.in-Some.twin < length old = omega (arith, after.1, c.requires.many) in
    let differ : c.args.place ≢ c.in-Some.twin = (λ e. omega (arith, after.0, e)) in
    next_order c.args.self.now.peers.items c.args.parts.now first old new c.args.place c.in-Some.twin c.in-Some.ensures.exchange differ low high by
    (swapped_many old new c.args.place c.in-Some.twin by) order

pub returns-in-Some-clause-fits : goal.returns-in-Some-clause-fits
returns-in-Some-clause-fits c is m at =
    let old = c.args.self.now.order.items in
    let new = c.swap.new.self.items in
    let by = c.swap.ensures.by_index in
    let after = c.in-Some.ensures.after in
    let low : c.args.place < length old = omega (arith, c.requires.place, c.requires.many) in
    let high : c.in-Some.twin < length old = omega (arith, after.1, c.requires.many) in
    let differ : c.args.place ≢ c.in-Some.twin = (λ e. omega (arith, after.0, e)) in
    c.in-Some.ensures.fits m
    (sym (came old new c.args.place c.in-Some.twin by (swapped_many old new c.args.place c.in-Some.twin by) low high differ) ∙ at)
