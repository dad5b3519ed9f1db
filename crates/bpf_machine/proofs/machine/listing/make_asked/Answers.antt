use Rattle.std.proofs.Common.{◌≡◌, Bool, true, subst}
use Rattle.bpf_machine.specs.Listings.{first_lists, listing_at}
use Rattle.bpf_machine.specs.Private.KeyLists.{listings}
use Rattle.bpf_machine.proofs.KeyListLaws.{all_due}
use Rattle.bpf_machine.proofs.machine.listing.make_asked.Goals as goal

pub returns-in_ok-make_lists-clause-first : goal.returns-in_ok-make_lists-clause-first
returns-in_ok-make_lists-clause-first c =
    let asked : true ≡ c.args.keys = cc in
    let all = c.in_ok-make_lists.field-0.items in
    subst (λ (b : Bool). listing_at (listings b all) ≡ first_lists b) asked (all_due all c.in_ok-make_lists.ensures.first)
