-- The heap and what it means (Heap), node by node (HeapLaws); past bound variables (Following); walks over what rows stand for (Walking, WalkLaws), and over a row's own words (LoneLaws); what is
-- written of them (Writing), node by node (WriteLaws, PartLaws), with symbols as they are (RunLaws). In proofs/: what is bound and what it stands for (SolvedLaws, BindLaws), and that following goes down (Falling).
pub mod Heap
pub mod HeapLaws
pub mod Following
pub mod Walking
pub mod WalkLaws
pub mod LoneLaws
pub mod Writing
pub mod WriteLaws
pub mod PartLaws
pub mod RunLaws
