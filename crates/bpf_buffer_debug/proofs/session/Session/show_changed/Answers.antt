use Rattle.std.proofs.Common.{◌≡◌, ◌∙◌, ℕ, List, None, Some, Option, false, map, refl, sym, subst}
use Rattle.std.specs.Prelude.{true, option_map, string_bytes}
use Rattle.bpf_names.specs.Names.{names_of}
use Rattle.bpf_plain.specs.PlainStore.{has_cpu}
use Rattle.bpf_buffering.specs.Search.{BufferedState}
use Rattle.bpf_debug.specs.declared.recall.Kind.TheVariants as kind
use Rattle.bpf_debug.specs.Command.{Show}
use Rattle.bpf_debug.specs.Recall.{IsRecall, Past}
use Rattle.bpf_debug.specs.Show.{IsBefore, changed_text}
use Rattle.bpf_debug.specs.Watch.{watched}
use Rattle.bpf_debug.proofs.SessionLaws.{alone}
use Rattle.bpf_buffer_debug.specs.Private.Kept.{first_of}
use Rattle.bpf_buffer_debug.specs.Command.{Plain}
use Rattle.bpf_buffer_debug.specs.Moves.{all_moves}
use Rattle.bpf_buffer_debug.specs.Recall.{RecallsTo}
use Rattle.bpf_buffer_debug.specs.Seeing.{TellsSeenLines}
use Rattle.bpf_buffer_debug.specs.Session.{SessionState, Leaves}
use Rattle.bpf_buffer_debug.proofs.SessionLaws.{GoesOn, first_still, told_shown}
use Rattle.bpf_buffer_debug.proofs.session.Session.show_changed.Goals as goal

pub returns-clause-answered : goal.returns-clause-answered
returns-clause-answered c =
    let m = c.self.inside in
    let cpu = c.args.cpu in
    let shown = c.args.shown in
    let lines = map string_bytes shown.lines.items in
    let album = c.recall.new.album in
    let recalled = c.in_ok-recalled.recalled in
    let made = c.in_ok-recalled.ensures.made in
    let last = string_bytes c.changed.result in
    let s : SessionState = record {
      machine = m.album.machine;
      first = first_of m.album;
      names = names_of m.names;
      breaks = m.breakpoints.items;
      watch = option_map watched m.watch;
      course = m.course;
      lost = m.lost;
    } in
    let t : SessionState = record s { machine = album.machine; first = first_of album; lost = false } in
    let on : GoesOn s t = record {
      first = first_still m.album album c.self.invariant.kept (c.recall.ensures.kept ∙ c.restore.ensures.same);
      names = refl;
      breaks = refl;
      watch = refl;
      kept = λ lost. refl;
    } in
    let firsts : Some (first_of m.album) ≡ Some c.restore.new.self.machine = sym c.self.invariant.kept ∙ c.in_ok-restore.ensures.ok in
    let again : first_of m.album ≡ c.restore.new.self.machine = cc in
    let recalls = subst (λ (b : BufferedState). RecallsTo kind.Works cpu b None (all_moves made.0) album.machine recalled) (sym again) made.2 in
    let put : (past : Option Past) → IsRecall cpu recalled past → (before : List ℕ) × IsBefore cpu past before
    × (last ≡ changed_text before 0 shown.registers lines) = λ past is.
    let p = c.changed.ensures cpu past is in
    (p.0, p.1, alone (string_bytes shown.room) last (changed_text p.0 0 shown.registers lines) c.requires.empty p.2) in
    let H : SessionState → Type 0 = λ r. has_cpu r.machine.machine.store cpu ≡ true in
    let L : SessionState → Type 0 = λ r. TellsSeenLines r.names r.machine cpu shown in
    subst (λ (r : SessionState). Leaves r (Plain (Show (Some cpu))) last t) c.self.view_is
    (told_shown s t on made.0 cpu recalled shown last (subst H (sym c.self.view_is) c.requires.served) made.1 refl recalls
    (subst L (sym c.self.view_is) c.requires.lines) put)
