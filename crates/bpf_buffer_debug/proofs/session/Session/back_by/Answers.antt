use Rattle.std.proofs.Common.{◌≡◌, ◌∙◌, ℕ, false, List, Some, refl, sym, subst}
use Rattle.std.specs.Prelude.{string_bytes, option_map}
use Rattle.bpf_names.specs.Names.{names_of}
use Rattle.bpf_buffer_debug.specs.Private.Kept.{first_of}
use Rattle.bpf_buffering.specs.Search.{BufferedState}
use Rattle.bpf_flushes.specs.Moves.{MakesTo}
use Rattle.bpf_debug.specs.Answer.{IsWhere}
use Rattle.bpf_debug.specs.Command.{Back}
use Rattle.bpf_debug.specs.Course.{TakesBack}
use Rattle.bpf_buffer_debug.specs.Command.{Plain}
use Rattle.bpf_buffer_debug.specs.Moves.{all_moves}
use Rattle.bpf_buffer_debug.specs.Session.{SessionState, Leaves}
use Rattle.bpf_buffer_debug.proofs.SessionLaws.{GoesOn, first_still, went_back}
use Rattle.bpf_debug.specs.Watch.{watched}
use Rattle.bpf_buffer_debug.proofs.session.Session.back_by.Goals as goal

pub returns-clause-answered : goal.returns-clause-answered
returns-clause-answered c =
    let m = c.self.inside in
    let album = c.repeat.new.album in
    let last = string_bytes c.in_ok-text.text in
    let runs = c.requires.0 in
    let told = c.in_ok-text.ensures.made in
    let s : SessionState = record {
      machine = m.album.machine;
      first = first_of m.album;
      names = names_of m.names;
      breaks = m.breakpoints.items;
      watch = option_map watched m.watch;
      course = m.course;
      lost = m.lost;
    } in
    let t : SessionState = record {
      machine = album.machine;
      first = first_of album;
      names = names_of m.names;
      breaks = m.breakpoints.items;
      watch = option_map watched m.watch;
      course = c.take_back-made.new.self;
      lost = false;
    } in
    let on : GoesOn s t = record {
      first = first_still m.album album c.self.invariant.kept (c.repeat.ensures.kept ∙ c.restore.ensures.same);
      names = refl;
      breaks = refl;
      watch = refl;
      kept = λ lost. refl;
    } in
    let C : SessionState → Type 0 = λ r. r.course ≡ Some runs in
    let is : m.course ≡ Some runs = subst C (sym c.self.view_is) c.requires.1 in
    let taken = c.take_back-made.ensures runs is in
    let two : Some taken.0 ≡ Some told.0 = sym taken.1 ∙ told.1 in
    let same : taken.0 ≡ told.0 = cc in
    let firsts : Some (first_of m.album) ≡ Some c.restore.new.self.machine = sym c.self.invariant.kept ∙ c.in_ok-restore.ensures.ok in
    let again : first_of m.album ≡ c.restore.new.self.machine = cc in
    let made = subst (λ (b : BufferedState). MakesTo b (all_moves told.0) album.machine) (sym again) told.2 in
    let stands = subst (λ (n : ℕ). IsWhere album.machine.machine.jobs n last) c.cpu_of.ensures told.3 in
    subst (λ (r : SessionState). Leaves r (Plain (Back c.args.count)) last t) c.self.view_is
    (went_back s t on runs told.0 c.args.count c.take_back-made.result last is told.1 c.requires.2
    (subst (λ (fewer : List (ℕ × ℕ)). TakesBack runs c.args.count fewer c.take_back-made.result) same taken.2) made stands)
