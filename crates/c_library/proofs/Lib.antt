mod AcceptedCalls
mod AcceptedSteps
mod DratOutputs
mod VerifiedRuns
