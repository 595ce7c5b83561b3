-- `Laws` pins the definitions of `specs/RecvBuf.antt` to what is meant by them.
pub mod Laws
