use Rattle.std.proofs.Common.{◌<◌, ℕ, subst, refl}
use Rattle.bpf_explore.proofs.HungLaws.{one_more_hung, next_beyond, none_new}
use Rattle.bpf_explore.proofs.PatienceLaws.{some_hung, some_there}
use Rattle.bpf_explore.proofs.hung.add_hung.Goals as goal

pub hung_at-requires : goal.hung_at-requires
hung_at-requires c = record {
  place = subst (λ (n : ℕ). c.args.place < n) c.requires.marked.1.count c.requires.place;
  stuck = (c.requires.marked.0, c.requires.marked.1.stuck);
  unmarked = c.if-not-is_first_hung.ensures.first refl;
}

pub returns-clause-hung : goal.returns-clause-hung
returns-clause-hung c all = one_more_hung c.args.explorer.now.kept c.args.hung.now.items c.push.new.self.items c.in-Some.found all
    (some_hung c.args.explorer.now.kept c.in_ok-found.field-0 c.in-Some.found c.in-Some.is c.in_ok-found.ensures.hung) c.in_ok-push.ensures.items

pub returns-then-not-is_first_hung-clause-listed : goal.returns-then-not-is_first_hung-clause-listed
returns-then-not-is_first_hung-clause-listed c fits all = none_new c.args.explorer.now.kept c.args.marks.now c.args.hung.now.items
    c.args.place (c.if-not-is_first_hung.ensures.later refl) all

pub returns-clause-listed : goal.returns-clause-listed
returns-clause-listed c fits all =
    next_beyond c.args.explorer.now.kept c.args.marks.now c.args.hung.now.items c.push.new.self.items c.in-Some.found c.args.place
    (some_there c.args.explorer.now.kept c.args.place c.in_ok-found.field-0 c.in-Some.found c.in-Some.is c.in_ok-found.ensures.there)
    c.in_ok-push.ensures.items all
