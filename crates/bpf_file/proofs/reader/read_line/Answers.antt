use Rattle.std.proofs.Common.{rules, [], map}
use Rattle.bpf_file.specs.Parts.{Within}
use Rattle.bpf_file.specs.Private.Drafts.{part_of}
use Rattle.bpf_file.specs.Private.Fits.{IsFit, IsFitState}
use Rattle.bpf_file.proofs.Fits.{line_fits, opening_fits, then_fits}
use Rattle.bpf_file.proofs.reader.read_line.Goals as goal

pub returns-in-Line-clause-fit : goal.returns-in-Line-clause-fit
returns-in-Line-clause-fit c =
    line_fits c.args.line (part_of c.args.draft.now) (part_of c.read_fields.new.self)
    (map (λ f. f.now) c.deref.result.now) (search rules)

pub returns-clause-fit : goal.returns-clause-fit
returns-clause-fit c =
    then_fits c.read_assembly.result (IsFit (part_of c.args.draft.now))
    (IsFitState (Within (part_of c.read_fields.new.self) c.args.line c.in-Assembly.name.now []))
    (IsFit (part_of c.read_assembly.new.draft))
    (opening_fits c.args.line (part_of c.args.draft.now) (part_of c.read_fields.new.self)
    (map (λ f. f.now) c.deref.result.now) c.in-Assembly.name.now (search rules))
    c.read_assembly.ensures.fit

-- before the assembly of a program the file is as fit as before its line
pub read_assembly-requires-clause-fit : goal.read_assembly-requires-clause-fit
read_assembly-requires-clause-fit c =
    let opened = opening_fits c.args.line (part_of c.args.draft.now) (part_of c.read_fields.new.self)
    (map (λ f. f.now) c.deref.result.now) c.in-Assembly.name.now (search rules) c.requires.fit in
    opened.0
