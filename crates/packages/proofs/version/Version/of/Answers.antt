use Rattle.packages.specs.Versions.{IsVersionFault}
use Rattle.packages.proofs.Faults.{of_revision, of_upstream, passes}
use Rattle.packages.proofs.version.Version.of.Goals as goal

pub returns-in_err-ranks-2-clause-fault : goal.returns-in_err-ranks-2-clause-fault
returns-in_err-ranks-2-clause-fault c =
    passes (IsVersionFault c.args.text.now) _ _ c.from_residual-in_err-ranks-2.ensures.1
    (of_upstream c.args.text.now _ _ _ c.split_epoch.ensures.rest c.split_revision.ensures.upstream c.in_err-ranks-2.ensures.fault)

pub returns-in_err-ranks-3-clause-fault : goal.returns-in_err-ranks-3-clause-fault
returns-in_err-ranks-3-clause-fault c =
    passes (IsVersionFault c.args.text.now) _ _ c.from_residual-in_err-ranks-3.ensures.1
    (of_revision c.args.text.now _ _ _ c.split_epoch.ensures.rest c.split_revision.ensures.revision c.in_err-ranks-3.ensures.fault)
