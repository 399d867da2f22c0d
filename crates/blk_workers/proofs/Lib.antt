-- Awaited: which replies are owed. FewNumbers: how many numbers an increasing list can hold. InStep: how the freezer comes into step
-- with the queue that a line leaves. PassedPoints: which lines pass the point of a drain. RunEnds: what a run has answered.
pub mod Awaited
pub mod FewNumbers
pub mod InStep
pub mod PassedPoints
pub mod RunEnds
