pub mod RecvBuf
