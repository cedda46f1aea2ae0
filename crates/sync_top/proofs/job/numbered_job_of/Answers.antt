use Rattle.sync_top.proofs.Jobs.{gen_job, start_job}
use Rattle.sync_top.proofs.job.numbered_job_of.Goals as goal

pub returns-in-gen : goal.returns-in-gen
returns-in-gen c = gen_job c.args.word.now c.args.second.now c.args.third.now c.generate_of.result c.in-gen.is c.generate_of.ensures

pub returns-in-start : goal.returns-in-start
returns-in-start c = start_job c.args.word.now c.args.second.now c.args.third.now c.start_of.result c.in-start.is c.start_of.ensures
