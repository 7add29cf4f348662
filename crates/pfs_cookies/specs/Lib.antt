pub mod CookieLaws
pub mod Cookies
pub mod KeyOrders
