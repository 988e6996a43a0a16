-- What a handle owns.
use denote.RawPtr.{Ptr, block_ptr, null_ptr}
use base.Fml.{Fml, ftrue, ffalse}
use Rattle.std.specs.declared.option.Option.{Option}
use Rattle.std.specs.declared.option.Option.TheVariants.{None, Some}
use Rattle.std.specs.declared.alloc.Global.{Global}
use Rattle.std.specs.contracts.impls.GlobalAllocator.TheImpl.{ghosts}
use Rattle.std_alloc.specs.Box.Ownership.{box_owns}
use Rattle.lrlex_handles.specs.declared.object.Object.{Object}
use Rattle.lrlex_handles.specs.contracts.object.Object.{the_row}

-- the object x and the right to free its block
abbrev pub boxed : Global → Ptr → Object → Fml
boxed a = box_owns (ghosts.dealloc_token a) the_row

-- nothing at null, else the object
abbrev pub holds : Global → Ptr → Option Object → Fml
holds a null_ptr None = ftrue
holds a null_ptr (Some x) = ffalse
holds a (block_ptr b o) None = ffalse
holds a (block_ptr b o) (Some x) = boxed a (block_ptr b o) x
