use Rattle.std.proofs.Common.{◌≡◌, ◌≤◌, ℕ, ◌+◌, List, [], ◌∷◌, ◌++◌, map, length, ap, sym, ◌∙◌, arith, append_assoc, Result, Ok, Err, IfOk}
use Rattle.std.proofs.lemmas.List.{append-nil, nil_from_length, length-append}
use Rattle.std.proofs.lemmas.Bool.Decides.{nat_tests}
use Rattle.bpf_shared.specs.History.{events_of}
use Rattle.bpf_pairs.specs.Pairs.{pair_of}
use Rattle.bpf_pairs.specs.Putting.{first_history}
use Rattle.hop_map.specs.Port.{Port}
use Rattle.hop_map.specs.Stores.{HaveSeen, IsWhole, seen_by}
use Rattle.bpf_sched.proofs.FirstRun.{IsFilled, fits_at, idle_at, is_first, idle_ports, new_at, new_ports, next_of, none_filled}
use Rattle.bpf_sched.proofs.FirstRun.{nothing_done, nothing_seen, many_new, one_more}
use Rattle.bpf_sched.proofs.filling.fill.Goals as goal

pub returns-then-is_empty : goal.returns-then-is_empty
returns-then-is_empty g c =
    let t = c.args.table.now in
    let ports = c.args.ports.items in
    let is = c.is_empty.ensures in
    let test = c.if-is_empty.true in
    let none : c.args.pairs.now ≡ [] = nil_from_length c.args.pairs.now (grind (arith, nat_tests)) in
    (new_ports t ports c.requires.ports, nothing_seen t ports c.requires.ports ∙ ap (λ ps. first_history (map pair_of ps)) (sym none))

pub ports-init : goal.ports-init
ports-init g c =
    let none = c.in_ok-filled.ensures.items in (
      none_filled c.args.table.now (map pair_of c.args.pairs.now) c.in_ok-filled.filled.items none,
      ap length none,
      c.into_iter-port-iterator.ensures.into_iter_gives.0,
    )

pub put_by-requires-clause-fits : goal.put_by-requires-clause-fits
put_by-requires-clause-fits g c =
    let is = next_of c.args.ports.items c.ports.yielded c.ports.port-iterator.rest.items c.next.new.self.rest.items c.in-Some.port
    c.ports.invariant.2 c.in-Some.ensures.steps.0 in
    fits_at c.args.table.now c.args.ports.items c.requires.ports (length c.ports.yielded) c.in-Some.port is

pub put_by-requires-clause-idle : goal.put_by-requires-clause-idle
put_by-requires-clause-idle g c =
    let is = next_of c.args.ports.items c.ports.yielded c.ports.port-iterator.rest.items c.next.new.self.rest.items c.in-Some.port
    c.ports.invariant.2 c.in-Some.ensures.steps.0 in
    idle_at c.args.table.now c.args.ports.items c.requires.ports (length c.ports.yielded) c.in-Some.port is

pub put_by-requires-clause-new : goal.put_by-requires-clause-new
put_by-requires-clause-new g c =
    let is = next_of c.args.ports.items c.ports.yielded c.ports.port-iterator.rest.items c.next.new.self.rest.items c.in-Some.port
    c.ports.invariant.2 c.in-Some.ensures.steps.0 in
    nothing_done c.args.table.now c.args.ports.items c.requires.ports (length c.ports.yielded) c.in-Some.port is

pub ports-preserved : goal.ports-preserved
ports-preserved g c =
    let t = c.args.table.now in
    let ps = map pair_of c.args.pairs.now in
    let port = c.in-Some.port in
    let put = c.in_ok-put_by.field-0 in
    let rest = c.next.new.self.rest.items in
    let filled = c.ports.filled.items in
    let yielded = c.ports.yielded in
    let i = c.ports.invariant in
    let step = c.in-Some.ensures.steps.0 in
    let items = c.in_ok-push.ensures.items in
    let is = next_of c.args.ports.items yielded c.ports.port-iterator.rest.items rest port i.2 step in
    let number : port.known.cpu ≡ length filled = ap (λ l. l.cpu) (new_at t c.args.ports.items c.requires.ports (length yielded) port is) ∙ sym i.1 in
    let one : IsFilled t ps (length filled) put = record {
      fits = c.in_ok-put_by.ensures.fits;
      number = c.in_ok-put_by.ensures.cpu ∙ number;
      idle = c.in_ok-put_by.ensures.idle;
      own = c.in_ok-put_by.ensures.put ∙ ap (λ (k : ℕ). events_of k (first_history ps)) number;
    } in (
      one_more t ps filled c.push.new.self.items put items i.0 one,
      ap length items ∙ (length-append filled (put ∷ []) ∙ (ap (λ (n : ℕ). n + 1) i.1 ∙ sym (length-append yielded (port ∷ [])))),
      append_assoc yielded (port ∷ []) rest ∙ (ap (λ (l : List Port). yielded ++ l) (sym step) ∙ i.2),
    )

pub settle-requires : goal.settle-requires
settle-requires g c =
    let t = c.args.table.now in
    let i = c.ports.invariant in
    let rest = c.ports.port-iterator.rest in
    let none_left = c.in-None.ensures.steps.0 in
    let empty : rest.items ≡ [] = nil_from_length rest.items (omega (arith, rest.ok.0, none_left)) in
    let all : c.ports.yielded ≡ c.args.ports.items = sym (append-nil c.ports.yielded) ∙ (ap (λ (l : List Port). c.ports.yielded ++ l) (sym empty) ∙ i.2) in
    idle_ports t (map pair_of c.args.pairs.now) c.ports.filled.items i.0 (i.1 ∙ (ap length all ∙ many_new t c.args.ports.items c.requires.ports))

both : {A E : Type 0} (r : Result A E) (P Q R : A → Type 0) → ((a : A) → P a → Q a → R a) → IfOk r P → IfOk r Q → IfOk r R
both (Ok a) P Q R f p q = f a p q
both (Err e) P Q R f p q = tt

pub returns : goal.returns
returns g c =
    let t = c.args.table.now in
    let ps = map pair_of c.args.pairs.now in
    let filled = c.ports.filled.items in
    let i = c.ports.invariant in
    let rest = c.ports.port-iterator.rest in
    let none_left = c.in-None.ensures.steps.0 in
    let empty : rest.items ≡ [] = nil_from_length rest.items (omega (arith, rest.ok.0, none_left)) in
    let all : c.ports.yielded ≡ c.args.ports.items = sym (append-nil c.ports.yielded) ∙ (ap (λ (l : List Port). c.ports.yielded ++ l) (sym empty) ∙ i.2) in
    let count = i.1 ∙ (ap length all ∙ many_new t c.args.ports.items c.requires.ports) in
    let cpus : c.cpus-few.result ≡ t.about.shape.cpus = c.cpus-few.ensures.cpus ∙ ap (λ a. a.shape.cpus) c.about.ensures in
    let least = c.cpus-few.ensures.in_range in
    let some : 1 ≤ t.about.shape.cpus = omega arith in
    both c.settle.result
    (λ v. HaveSeen t (seen_by v.items) v.items)
    (λ v. IsWhole t.about.shape.cpus filled (seen_by v.items))
    (λ v. HaveSeen t (seen_by v.items) v.items × (seen_by v.items ≡ first_history ps))
    (λ v seen whole. (seen, is_first t ps filled i.0 count (seen_by v.items) whole some))
    c.settle.ensures.ports c.settle.ensures.history
