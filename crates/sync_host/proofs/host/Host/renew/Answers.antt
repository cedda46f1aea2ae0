use Rattle.sync_host.proofs.host.Host.renew.Goals as goal

pub returns-in_default-clause-answered : goal.returns-in_default-clause-answered
returns-in_default-clause-answered c = λ verb body asks new. c.reply_to.ensures.answered verb body asks
