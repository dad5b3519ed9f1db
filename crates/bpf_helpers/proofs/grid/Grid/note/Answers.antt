use Rattle.std.proofs.Common.{rules, ◌≡◌, arith}
use Rattle.std.proofs.lemmas.Grind.{common_steps}
use Rattle.bpf_helpers.proofs.Sized.{on_known, on_noted, start_of}
use Rattle.bpf_helpers.proofs.grid.Grid.note.Goals as goal

pub returns-in_default-clause-elements : goal.returns-in_default-clause-elements
returns-in_default-clause-elements c = λ maps m are sized e.
    absurd (c.in_default.ensures.none m _ (start_of maps m c.args.span e are).offset)

pub returns-then-self-map-eq0-clause-elements : goal.returns-then-self-map-eq0-clause-elements
returns-then-self-map-eq0-clause-elements c = λ maps m are sized e.
    let narrow = (start_of maps m c.args.span e are).narrow in
    let low = c.in-Some.ensures.some.map in
    let size : c.unwrap_or.result ≡ c.args.span.size = grind (arith, common_steps) in
    on_noted maps c.args.self.now.sizes m c.in-Some.map c.in-Some.field-0-1 c.unwrap_or.result c.args.span are sized e
    c.in-Some.ensures.some (search rules) size

pub returns-else-self-map-eq0-clause-elements : goal.returns-else-self-map-eq0-clause-elements
returns-else-self-map-eq0-clause-elements c = λ maps m are sized e.
    (sized, on_known maps c.args.self.now.sizes m c.in-Some.map c.in-Some.field-0-1 c.args.span are sized e c.in-Some.ensures.some c.if-self-map-eq0.false)
