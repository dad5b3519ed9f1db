use Rattle.std.proofs.Common.{Bool, subst}
use Rattle.bpf_replies.specs.declared.comments.Reading.{Reading}
use Rattle.bpf_replies.specs.Checking.{AreNotesOf}
use Rattle.bpf_replies.specs.Comments.{AreLinesIn, IsExpectedIn, for_check}
use Rattle.bpf_replies.proofs.checking.grounds_in.Goals as goal

pub returns-clause-expected : goal.returns-clause-expected
returns-clause-expected g c =
    let read = subst (λ (r : Reading). IsExpectedIn r c.args.text.now c.in_ok-expected.expected.items) c.reading_of-reading.ensures
    c.in_ok-expected.ensures.found in
    subst (λ (p : Bool). IsExpectedIn (for_check p c.args.options.now.x86 c.args.options.now.lenient) c.args.text.now c.in_ok-expected.expected.items)
    c.in_ok-search.ensures.patient read

pub returns-clause-lines : goal.returns-clause-lines
returns-clause-lines g c =
    let wanted = c.args.options.now.lines in
    let read = subst (λ (r : Reading). AreLinesIn r wanted c.args.text.now c.in_ok-lines.lines.items) c.reading_of-reading.ensures
    c.in_ok-lines.ensures.found in
    subst (λ (p : Bool). AreLinesIn (for_check p c.args.options.now.x86 c.args.options.now.lenient) wanted c.args.text.now c.in_ok-lines.lines.items)
    c.in_ok-search.ensures.patient read

pub returns-clause-notes : goal.returns-clause-notes
returns-clause-notes g c =
    let read = subst (λ (r : Reading). AreNotesOf r c.args.text.now c.in_ok-notes.notes) c.reading_of-reading.ensures
    c.in_ok-notes.ensures.found in
    subst (λ (p : Bool). AreNotesOf (for_check p c.args.options.now.x86 c.args.options.now.lenient) c.args.text.now c.in_ok-notes.notes)
    c.in_ok-search.ensures.patient read
