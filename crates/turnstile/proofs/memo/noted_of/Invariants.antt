use Rattle.turnstile.proofs.memo.noted_of.Given as goal

-- the memo is of what is shown
abbrev pub ghost-picked : goal.ghost-picked
ghost-picked g a = a.about.now
