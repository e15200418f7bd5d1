use Rattle.session.proofs.serving.perform.Goals as goal

pub returns-in-Ok-clause-leads : goal.returns-in-Ok-clause-leads
returns-in-Ok-clause-leads g c =
    let answered = c.in-Ok.ensures.ok in
    (answered.text, answered.is_one)

pub returns-in-Ok-clause-probes : goal.returns-in-Ok-clause-probes
returns-in-Ok-clause-probes g c =
    let answered = c.in-Ok.ensures.probes in
    (answered.text, answered.is_one)
