use Rattle.std.proofs.Common.{◌≡◌, ◌++◌, [], ◌∷◌, ℕ, List, Option, Some, length, sym, subst, arith}
use Rattle.bpf_explore.specs.declared.scouts.Note.{Note}
use Rattle.bpf_explore.specs.Scouts.{AreNotes}
use Rattle.bpf_explore.proofs.ScoutLaws.{notes_longer, turn_noted}
use Rattle.bpf_explore.proofs.scouts.note_turn.Goals as goal

pub returns-in_err-extend_from_slice : goal.returns-in_err-extend_from_slice
returns-in_err-extend_from_slice c patient kept stock are width turn =
    subst (λ (ts : List ℕ). AreNotes patient kept stock ts c.args.notes.now.items) (sym c.in_err-extend_from_slice.ensures.items) are

pub returns-in_err-push : goal.returns-in_err-push
returns-in_err-push c patient kept stock are width turn =
    let longer = notes_longer patient kept stock c.args.tuples.now.items c.args.numbers.now c.args.notes.now.items are in
    subst (λ (ns : List (Option Note)). AreNotes patient kept stock c.extend_from_slice.new.self.items ns) (sym c.in_err-push.ensures.items)
    (subst (λ (ts : List ℕ). AreNotes patient kept stock ts c.args.notes.now.items) (sym c.in_ok-extend_from_slice.ensures.items) longer)

pub returns : goal.returns
returns c patient kept stock are width turn =
    let note : Note = record { place = c.args.place; ahead = c.args.ahead; first = c.len-first.result; cpu = c.args.cpu } in
    let first : c.len-first.result ≡ length c.args.tuples.now.items = omega (arith, c.len-first.ensures, c.args.tuples.now.ok.0) in
    let noted = turn_noted patient kept stock c.args.tuples.now.items c.args.numbers.now c.args.notes.now.items note are first width turn in
    subst (λ (ns : List (Option Note)). AreNotes patient kept stock c.extend_from_slice.new.self.items ns) (sym c.in_ok-push.ensures.items)
    (subst (λ (ts : List ℕ). AreNotes patient kept stock ts (c.args.notes.now.items ++ Some note ∷ [])) (sym c.in_ok-extend_from_slice.ensures.items) noted)
