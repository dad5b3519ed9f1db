use Rattle.std.proofs.Common.{◌≡◌, ◌∙◌, None, Some, Option, false, refl, sym, subst}
use Rattle.std.specs.Prelude.{true, option_map, string_bytes}
use Rattle.bpf_names.specs.Names.{names_of}
use Rattle.bpf_plain.specs.PlainStore.{has_cpu}
use Rattle.bpf_buffering.specs.Search.{BufferedState}
use Rattle.bpf_debug.specs.declared.recall.Kind.TheVariants as kind
use Rattle.bpf_debug.specs.Command.{Last}
use Rattle.bpf_debug.specs.Recall.{IsLastText, IsRecall, Past}
use Rattle.bpf_debug.specs.Watch.{watched}
use Rattle.bpf_buffer_debug.specs.Private.Kept.{first_of}
use Rattle.bpf_buffer_debug.specs.Command.{Plain}
use Rattle.bpf_buffer_debug.specs.Moves.{all_moves}
use Rattle.bpf_buffer_debug.specs.Recall.{RecallsTo}
use Rattle.bpf_buffer_debug.specs.Session.{SessionState, Leaves}
use Rattle.bpf_buffer_debug.proofs.SessionLaws.{GoesOn, first_still, told_last}
use Rattle.bpf_buffer_debug.proofs.session.Session.last_at.Goals as goal

pub returns-clause-answered : goal.returns-clause-answered
returns-clause-answered c =
    let m = c.self.inside in
    let cpu = c.args.cpu in
    let album = c.recall.new.album in
    let recalled = c.in_ok-recalled.recalled in
    let made = c.in_ok-recalled.ensures.made in
    let last = string_bytes c.in_ok-text.text in
    let s : SessionState = record {
      machine = m.album.machine;
      first = first_of m.album;
      names = names_of m.names;
      breaks = m.breakpoints.items;
      watch = option_map watched m.watch;
      course = m.course;
      lost = m.lost;
    } in
    let t : SessionState = record s { machine = album.machine; first = first_of album; lost = false } in
    let on : GoesOn s t = record {
      first = first_still m.album album c.self.invariant.kept (c.recall.ensures.kept ∙ c.restore.ensures.same);
      names = refl;
      breaks = refl;
      watch = refl;
      kept = λ lost. refl;
    } in
    let firsts : Some (first_of m.album) ≡ Some c.restore.new.self.machine = sym c.self.invariant.kept ∙ c.in_ok-restore.ensures.ok in
    let again : first_of m.album ≡ c.restore.new.self.machine = cc in
    let recalls = subst (λ (b : BufferedState). RecallsTo kind.Ends cpu b None (all_moves made.0) album.machine recalled) (sym again) made.2 in
    let T : BufferedState → Type 0 = λ b. (past : Option Past) → IsRecall cpu recalled past → IsLastText cpu past b.machine.jobs last in
    let H : SessionState → Type 0 = λ r. has_cpu r.machine.machine.store cpu ≡ true in
    subst (λ (r : SessionState). Leaves r (Plain (Last (Some cpu))) last t) c.self.view_is
    (told_last s t on made.0 cpu recalled last (subst H (sym c.self.view_is) c.requires) made.1 refl recalls
    (subst T c.machine.ensures c.in_ok-text.ensures))
