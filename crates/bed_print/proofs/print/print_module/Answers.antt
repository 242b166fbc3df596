use Rattle.bed_print.proofs.RoundTrip.{appended_reads_back, appended_scopes_back}
use Rattle.bed_print.proofs.print.print_module.Goals as goal

pub returns-clause-reads_back : goal.returns-clause-reads_back
returns-clause-reads_back c = appended_reads_back c.args.m.now c.args.out.now.items c.append.new.out.items c.append.result c.append.ensures.printed

pub returns-clause-scopes_back : goal.returns-clause-scopes_back
returns-clause-scopes_back c = appended_scopes_back c.args.m.now c.args.out.now.items c.append.new.out.items c.append.result c.append.ensures.printed
