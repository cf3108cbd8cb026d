use Rattle.alarm_server.proofs.real.serve_real.Given as goal

abbrev pub ghost-new : goal.ghost-new
ghost-new g a = g.supposed.site

abbrev pub ghost-new-2 : goal.ghost-new-2
ghost-new-2 g a = g.supposed.datagrams

abbrev pub ghost-new-3 : goal.ghost-new-3
ghost-new-3 g a = g.supposed.disk
